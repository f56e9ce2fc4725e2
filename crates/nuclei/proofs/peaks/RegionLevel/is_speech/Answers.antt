-- `nuclei::peaks::RegionLevel::is_speech` meets its contract. Assumes nothing.
use Rattle.std.proofs.Common.{rules}
use Rattle.nuclei.specs.Peaks.{speech_by_level}
use Rattle.nuclei.proofs.peaks.RegionLevel.is_speech.Goals as goal

pub returns-then-contains : goal.returns-then-contains
unfolding speech_by_level
returns-then-contains c = search rules

pub returns-else-contains : goal.returns-else-contains
unfolding speech_by_level
returns-else-contains c = search rules
