-- `stages::speech_marks` meets its contract. Assumes nothing.
use mathlib.Core.Path.{sym}
use lib.ListN.{length-map}
use Rattle.std.proofs.lemmas.Result.{err_from_is_err_and}
use Rattle.region.specs.Speech.{mark, threshold_of}
use Rattle.admit.proofs.Admitted.{speech_admitted}
use Rattle.admit.proofs.Numbered.{not_zero}
use Rattle.entries.proofs.Entering.{finds, refuses}
use Rattle.entries.proofs.stages.speech_marks.Goals as goal

pub returns-in_err-speech_refusal : goal.returns-in_err-speech_refusal
returns-in_err-speech_refusal c =
    let p = err_from_is_err_and c.from_residual.result c.from_residual.ensures.1 in
    rw (p.1, p.2) (refuses _ c.in_err-speech_refusal.ensures (not_zero _))

pub speech_frames-requires : goal.speech_frames-requires
speech_frames-requires c =
    let a = speech_admitted _ _ _ (sym c.in_ok-speech_refusal.ensures) in
    record { db_len_bound = a.0; db_in_bounds = a.1 }

pub returns : goal.returns
returns c =
    let count = sym (length-map c.args.db.now (mark (threshold_of c.args.db.now c.args.p))) in
    finds _ c.in_ok-speech_refusal.ensures (record { count = count; entries = c.speech_frames.ensures })
