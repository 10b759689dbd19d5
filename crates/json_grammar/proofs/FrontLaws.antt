-- Reading from the front: what was read, and what is left.
-- Assumes nothing.
use Prim.Native.Nat.{ℕ, ◌<◌}
use mathlib.Core.Path.{◌≡◌, refl, sym, ap, ◌∙◌}
use mathlib.Core.List.{List, [], ◌∷◌, ◌++◌, append_assoc}
use mathlib.Core.Option.{Option, some}
use native.Mathlib.Omega.{arith}
use lib.ListN.{length, length-append}

-- `s` is a text that is `P`, and then `r`
pub record Front (P : List ℕ → Type 0) (s r : List ℕ) : Type 0 where
  pub text : List ℕ
  pub stands : P text
  pub whole : s ≡ text ++ r

-- a text that is `P`, and then one that is `Q`
pub data Both (P Q : List ℕ → Type 0) : List ℕ → Type 0 where
  both : {s t : List ℕ} → P s → Q t → Both P Q (s ++ t)

-- whatever is left, what was read is `P`
abbrev pub Sound : (List ℕ → Option (List ℕ)) → (List ℕ → Type 0) → Type 0
Sound f P = (s r : List ℕ) → f s ≡ some r → Front P s r

-- what is left is shorter
abbrev pub Shortens : (List ℕ → Option (List ℕ)) → Type 0
Shortens f = (s r : List ℕ) → f s ≡ some r → length r < length s

-- nothing was read
pub front_none : {P : List ℕ → Type 0} (s : List ℕ) → P [] → Front P s s
front_none s p = record { text = []; stands = p; whole = refl }

-- one byte was read
pub front_one : {P : List ℕ → Type 0} (b : ℕ) (s : List ℕ) → P (b ∷ []) → Front P (b ∷ s) s
front_one b s p = record { text = b ∷ []; stands = p; whole = refl }

-- one byte, and then what was read
pub front_more : {P Q : List ℕ → Type 0} (b : ℕ) (s r : List ℕ) → ((t : List ℕ) → P t → Q (b ∷ t)) → Front P s r → Front Q (b ∷ s) r
front_more b s r convert x = record { text = b ∷ x.text; stands = convert x.text x.stands; whole = ap (λ (l : List ℕ). b ∷ l) x.whole }

pub front_both : {P Q : List ℕ → Type 0} (s q r : List ℕ) → Front P s q → Front Q q r → Front (Both P Q) s r
front_both s q r x y =
    record {
      text = x.text ++ y.text;
      stands = both x.stands y.stands;
      whole = x.whole ∙ ap (λ (l : List ℕ). x.text ++ l) y.whole ∙ sym (append_assoc x.text y.text r);
    }

pub front_as : {P Q : List ℕ → Type 0} (s r : List ℕ) → ((t : List ℕ) → P t → Q t) → Front P s r → Front Q s r
front_as s r convert x = record { text = x.text; stands = convert x.text x.stands; whole = x.whole }

pub front_shorter : {P : List ℕ → Type 0} (s r : List ℕ) → ((t : List ℕ) → P t → 0 < length t) → Front P s r → length r < length s
front_shorter s r some_bytes x =
    let h = some_bytes x.text x.stands in
    omega (arith, simp length-append at (ap length x.whole))
