-- The results that are made of what passes a test (`filter`, `keep`); and scaffolding of the code's loops: how a result is written to a lent list. Definitions only.
use Rattle.std.specs.Prelude.{ℕ, zero, suc, ◌+◌, ◌-◌, ◌≤◌, ◌≡◌, Bool, true, false, List, [], ◌∷◌, ◌++◌, length, take, drop}

-- `res` at the front of a lent list, whose entries past it stay
unfoldable pub overlay {ℓ} : {A : Type ℓ} → List A → List A → List A
overlay res old = res ++ drop (length res) old

-- what a call leaves that writes a list and returns its count r: `old` is lent, `new` comes back
pub record Listed {ℓ} {A : Type ℓ} (res old new : List A) (r : ℕ) : Type ℓ where
  pub count : r ≡ length res
  pub entries : new ≡ overlay res old

-- what a lent list holds at its front, as far as the count r; its entries past that are free
pub record Front {ℓ} {A : Type ℓ} (res new : List A) (r : ℕ) : Type ℓ where
  pub within : r ≤ length new
  pub entries : take r new ≡ res

-- one more entry in front, where b holds
abbrev pub cons_if {ℓ} : {A : Type ℓ} → Bool → A → List A → List A
cons_if true x xs = x ∷ xs
cons_if false x xs = xs

-- the entries that pass, in their order
unfoldable pub filter {ℓ} : {A : Type ℓ} → (A → Bool) → List A → List A
filter p [] = []
filter p (x ∷ xs) = cons_if (p x) x (filter p xs)

-- one more, where b holds
abbrev pub more_if : Bool → ℕ → ℕ
more_if true n = n + 1
more_if false n = n

-- of the k frames from i on, those that pass
unfoldable pub keep : (ℕ → Bool) → ℕ → ℕ → List ℕ
keep t i zero = []
keep t i (suc k) = cons_if (t i) i (keep t (suc i) k)

-- a list with another's entries in the places from a on and before b
unfoldable pub replaced {ℓ} : {A : Type ℓ} → ℕ → ℕ → List A → List A → List A
replaced a b new old = take a old ++ take (b - a) (drop a new) ++ drop b old
