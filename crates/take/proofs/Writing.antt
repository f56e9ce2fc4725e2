-- What is written to a page line by line: the page and what is left make up the whole. Assumes nothing.
use Prim.Native.Nat.{ℕ, ◌+◌, ◌≤◌}
use native.Mathlib.Omega.{arith}
use mathlib.Core.Path.{◌≡◌, sym, ap, ◌∙◌}
use mathlib.Core.List.{List, [], ◌++◌, append_assoc, append-nil}
use lib.ListN.{length, length-append}

-- the next line
pub write_next : (page line rest' : List ℕ) {page' rest whole : List ℕ} → page ++ rest ≡ whole → rest ≡ line ++ rest' → page' ≡ page ++ line → page' ++ rest' ≡ whole
write_next page line rest' h e p = ap (λ (x : List ℕ). x ++ rest') p ∙ append_assoc page line rest' ∙ ap (λ (x : List ℕ). page ++ x) (sym e) ∙ h

-- for which there is room where there is for all
pub write_room : (page line rest' old all : List ℕ) (n : ℕ) {rest : List ℕ} → page ++ rest ≡ old ++ all → rest ≡ line ++ rest' → length old + length all ≤ n → length page + length line ≤ n
write_room page line rest' old all n {rest} h e l = omega (arith, ap length h, ap length e, length-append page rest, length-append old all, length-append line rest')

pub write_end : (page : List ℕ) {rest whole : List ℕ} → page ++ rest ≡ whole → rest ≡ [] → page ≡ whole
write_end page h e = sym (append-nil page) ∙ ap (λ (x : List ℕ). page ++ x) (sym e) ∙ h
