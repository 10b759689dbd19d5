-- A field is taken for a name's exactly if it holds one, and that one is found: a field holds at most one name.
-- Assumes nothing.
use mathlib.Core.Path.{◌≡◌, refl, sym, ap, ◌∙◌, subst}
use mathlib.Core.Logic.{◌↔◌, ◌⊎◌, inl, inr}
use mathlib.Core.Bool.{Bool, true, false, ◌&&◌, cond}
use mathlib.Core.List.Memᴰ
use mathlib.Core.List.{List, [], ◌∷◌, ◌++◌, Memᴰ}
use Prim.Native.Nat.{ℕ, suc, ◌+◌, ◌≤◌, ◌<◌}
use native.Mathlib.Omega.{arith}
use lib.Dec.{eqb, leb, ltb}
use lib.ListN.{length, take, drop, take-append-drop, length-append}
use lib.Seq.{take-append_seam, drop-append_seam, length-take-le}
use borrow.Author.Tests.{leb-true, le-leb, ltb-true, ltb-false, lt-ltb, le-ltb, eqb-true, eqb-false, eq-eqb, ne_eqb}
use Rattle.lists.specs.Groups.{first_or}
use Rattle.lists.proofs.ListsLaws.{both, both⁻¹, all_member, member_all}
use Rattle.sim.specs.Adn.{is_filled, pairs_length, plain_length, name_length, name_of, is_name, record_of}
use Rattle.theorems_import.specs.Names.{Filled, Plain, Pairs, no_pair, one_pair, Name, plain, pairs, one_base, two_base, NameIn}

-- a test that isn't true is false
pub untrue : (b : Bool) → (b ≡ true → ⊥) → b ≡ false
untrue true f = absurd (f refl)
untrue false f = refl

-- ---- nothing but FF

pub filled⇒Filled : (s : List ℕ) → is_filled s ≡ true → Filled s
unfolding is_filled Filled
filled⇒Filled s e b m = eqb-true b 255 (all_member (λ c. eqb c 255) s e b m)

pub Filled⇒filled : (s : List ℕ) → Filled s → is_filled s ≡ true
unfolding is_filled Filled
Filled⇒filled s f = member_all (λ c. eqb c 255) s (λ b m. eq-eqb b 255 (f b m))

-- ---- how long a name is, by its first byte

length_pairs : (c : ℕ) (s : List ℕ) → c ≡ 128 → name_length (c ∷ s) ≡ suc (pairs_length s)
unfolding name_length
length_pairs c s e = rw (eq-eqb c 128 e) (omega arith)

length_one_base : (c : ℕ) (s : List ℕ) → c ≡ 129 → name_length (c ∷ s) ≡ suc (suc (suc (first_or 0 s)))
unfolding name_length
length_one_base c s e = rw (ne_eqb c 128 (λ z. omega arith), eq-eqb c 129 e) (omega arith)

length_two_base : (c : ℕ) (s : List ℕ) → c ≡ 130 → name_length (c ∷ s) ≡ suc (suc (suc (suc (first_or 0 s))))
unfolding name_length
length_two_base c s e = rw (ne_eqb c 128 (λ z. omega arith), ne_eqb c 129 (λ z. omega arith), eq-eqb c 130 e) (omega arith)

length_plain : (c : ℕ) (s : List ℕ) → (c ≡ 128 → ⊥) → (c ≡ 129 → ⊥) → (c ≡ 130 → ⊥) → name_length (c ∷ s) ≡ plain_length (c ∷ s)
unfolding name_length
length_plain c s f g h = rw (ne_eqb c 128 f, ne_eqb c 129 g, ne_eqb c 130 h)

-- ---- a name that a field holds is as long as is found

plain_more : (c : ℕ) (s : List ℕ) → c < 128 → plain_length (c ∷ s) ≡ suc (plain_length s)
unfolding plain_length
plain_more c s l = rw (lt-ltb c 128 l)

plain_over : (c : ℕ) (s : List ℕ) → 128 ≤ c → plain_length (c ∷ s) ≡ 0
unfolding plain_length
plain_over c s l = rw (le-ltb c 128 l)

pairs_over : (a b : ℕ) (s : List ℕ) → a ≡ 255 → b ≡ 255 → pairs_length (a ∷ (b ∷ s)) ≡ 0
unfolding pairs_length
pairs_over a b s e f = rw (eq-eqb a 255 e, eq-eqb b 255 f)

pairs_more : (a b : ℕ) (s : List ℕ) → ((a ≡ 255) × (b ≡ 255) → ⊥) → pairs_length (a ∷ (b ∷ s)) ≡ suc (suc (pairs_length s))
unfolding pairs_length
pairs_more a b s f = go (eqb a 255) refl (eqb b 255) refl
  where
    two : 2 + pairs_length s ≡ suc (suc (pairs_length s))
    two = omega arith

    go : (t : Bool) → eqb a 255 ≡ t → (u : Bool) → eqb b 255 ≡ u
        → cond (eqb a 255 && eqb b 255) 0 (2 + pairs_length s) ≡ suc (suc (pairs_length s))
    go true e true g = absurd (f (eqb-true a 255 e, eqb-true b 255 g))
    go true e false g = rw (e, g) two
    go false e u g = rw e two

fill_plain : (s : List ℕ) → Filled s → plain_length s ≡ 0
unfolding plain_length Filled
fill_plain [] f = refl
fill_plain (c ∷ s) f = plain_over c s (let e = f c (Memᴰ.head refl) in omega arith)

fill_pairs : (s : List ℕ) → Filled s → pairs_length s ≡ 0
unfolding pairs_length Filled
fill_pairs [] f = refl
fill_pairs (a ∷ []) f = refl
fill_pairs (a ∷ (b ∷ s)) f = pairs_over a b s (f a (Memᴰ.head refl)) (f b (Memᴰ.tail (Memᴰ.head refl)))

fill_name : (s : List ℕ) → Filled s → name_length s ≡ 0
unfolding name_length Filled
fill_name [] f = refl
fill_name (c ∷ s) f =
    let e = f c (Memᴰ.head refl) in
    length_plain c s (λ z. omega arith) (λ z. omega arith) (λ z. omega arith) ∙ fill_plain (c ∷ s) f

module _ (fill : List ℕ) (filled : Filled fill) where
  plain_length_lem : (s : List ℕ) → Plain s → plain_length (s ++ fill) ≡ length s
  unfolding Plain
  plain_length_lem [] p = fill_plain fill filled
  plain_length_lem (c ∷ s) p =
      plain_more c (s ++ fill) (omega (arith, p c (Memᴰ.head refl))) ∙ ap suc (plain_length_lem s (λ b m. p b (Memᴰ.tail m)))

  pairs_length_lem : (s : List ℕ) → Pairs s → pairs_length (s ++ fill) ≡ length s
  pairs_length_lem s no_pair = fill_pairs fill filled
  pairs_length_lem s (one_pair {a = a} {b = b} {s = t} f p) = pairs_more a b (t ++ fill) f ∙ ap (λ (n : ℕ). suc (suc n)) (pairs_length_lem t p)

  plain_name : (s : List ℕ) → Plain s → name_length (s ++ fill) ≡ length s
  unfolding Plain
  plain_name [] p = fill_name fill filled
  plain_name (c ∷ s) p =
      let l = p c (Memᴰ.head refl) in
      length_plain c (s ++ fill) (λ z. omega arith) (λ z. omega arith) (λ z. omega arith) ∙ plain_length_lem (c ∷ s) p

  name_length_lem : (name : List ℕ) → Name name → name_length (name ++ fill) ≡ length name
  unfolding first_or
  name_length_lem name (plain p) = plain_name name p
  name_length_lem name (pairs {s = s} p) = length_pairs 128 (s ++ fill) refl ∙ ap suc (pairs_length_lem s p)
  name_length_lem name (one_base {base = base} {s = s}) = length_one_base 129 (length s ∷ (base ∷ (s ++ fill))) refl
  name_length_lem name (two_base {high = high} {low = low} {s = s}) = length_two_base 130 (length s ∷ (high ∷ (low ∷ (s ++ fill)))) refl

pub NameIn⇒is_name : (field name : List ℕ) → NameIn field name → (is_name field ≡ true) × (name_of field ≡ name)
unfolding is_name name_of
NameIn⇒is_name field name i = rw i.joined (go (name_length (name ++ i.fill)) (name_length_lem i.fill i.filled name i.coded))
  where
    go : (n : ℕ) → n ≡ length name
        → ((leb n (length (name ++ i.fill)) && is_filled (drop n (name ++ i.fill))) ≡ true) × (take n (name ++ i.fill) ≡ name)
    go n e =
        rw e (
          both _ _ (le-leb (length name) (length (name ++ i.fill)) (simp length-append (omega arith)))
              (rw (drop-append_seam name i.fill) (Filled⇒filled i.fill i.filled)),
          take-append_seam name i.fill,
        )

-- a field holds at most one name
pub name_unique : (field name other : List ℕ) → NameIn field name → NameIn field other → name ≡ other
name_unique field name other i j = sym (NameIn⇒is_name field name i).1 ∙ (NameIn⇒is_name field other j).1

-- ---- what is found is a name

plain_cons : (c : ℕ) (s : List ℕ) → c < 128 → Plain s → Plain (c ∷ s)
unfolding Plain
plain_cons c s l p b m = go (Memᴰ.cases_cons m)
  where
    go : (b ≡ c) ⊎ Memᴰ b s → b < 128
    go (inl e) = omega arith
    go (inr n) = p b n

no_plain : Plain []
unfolding Plain
no_plain b m = absurd (Memᴰ.not-nil m)

plain_front : (s : List ℕ) → Plain (take (plain_length s) s)
unfolding plain_length
plain_front [] = no_plain
plain_front (c ∷ s) = go (ltb c 128) refl (plain_front s)
  where
    go : (t : Bool) → ltb c 128 ≡ t → Plain (take (plain_length s) s) → Plain (take (plain_length (c ∷ s)) (c ∷ s))
    go true e p = rw (plain_more c s (ltb-true c 128 e)) (plain_cons c (take (plain_length s) s) (ltb-true c 128 e) p)
    go false e p = rw (plain_over c s (ltb-false c 128 e)) no_plain

pairs_front : (s : List ℕ) → Pairs (take (pairs_length s) s)
unfolding pairs_length
pairs_front [] = no_pair
pairs_front (a ∷ []) = no_pair
pairs_front (a ∷ (b ∷ s)) = go (eqb a 255) refl (eqb b 255) refl (pairs_front s)
  where
    more : ((a ≡ 255) × (b ≡ 255) → ⊥) → Pairs (take (pairs_length s) s) → Pairs (take (pairs_length (a ∷ (b ∷ s))) (a ∷ (b ∷ s)))
    more f p = rw (pairs_more a b s f) (one_pair f p)

    go : (t : Bool) → eqb a 255 ≡ t → (u : Bool) → eqb b 255 ≡ u → Pairs (take (pairs_length s) s)
        → Pairs (take (pairs_length (a ∷ (b ∷ s))) (a ∷ (b ∷ s)))
    go true e true g p = rw (pairs_over a b s (eqb-true a 255 e) (eqb-true b 255 g)) no_pair
    go true e false g p = more (λ z. eqb-false b 255 g z.1) p
    go false e u g p = more (λ z. eqb-false a 255 e z.0) p

-- a count, a base byte or two, and as many bytes as the count says
counted_one : (s : List ℕ) → suc (suc (first_or 0 s)) ≤ length s → Name (129 ∷ take (suc (suc (first_or 0 s))) s)
unfolding first_or
counted_one [] l = absurd (omega arith)
counted_one (n ∷ []) l = absurd (omega arith)
counted_one (n ∷ (base ∷ t)) l =
    subst (λ (k : ℕ). Name (129 ∷ (k ∷ (base ∷ take n t)))) (length-take-le n t (omega arith)) (one_base {base = base} {s = take n t})

counted_two : (s : List ℕ) → suc (suc (suc (first_or 0 s))) ≤ length s → Name (130 ∷ take (suc (suc (suc (first_or 0 s)))) s)
unfolding first_or
counted_two [] l = absurd (omega arith)
counted_two (n ∷ []) l = absurd (omega arith)
counted_two (n ∷ (high ∷ [])) l = absurd (omega arith)
counted_two (n ∷ (high ∷ (low ∷ t))) l =
    subst (λ (k : ℕ). Name (130 ∷ (k ∷ (high ∷ (low ∷ take n t))))) (length-take-le n t (omega arith)) (two_base {high = high} {low = low} {s = take n t})

name_front : (field : List ℕ) → name_length field ≤ length field → Name (take (name_length field) field)
unfolding name_length
name_front [] l = plain no_plain
name_front (c ∷ s) l = go (eqb c 128) refl (eqb c 129) refl (eqb c 130) refl l
  where
    go : (t : Bool) → eqb c 128 ≡ t → (u : Bool) → eqb c 129 ≡ u → (v : Bool) → eqb c 130 ≡ v → name_length (c ∷ s) ≤ suc (length s)
        → Name (take (name_length (c ∷ s)) (c ∷ s))
    go true e u g v h l =
        rw (length_pairs c s (eqb-true c 128 e)) (subst (λ (b : ℕ). Name (b ∷ take (pairs_length s) s)) (sym (eqb-true c 128 e)) (pairs (pairs_front s)))
    go false e true g v h l =
        let k = length_one_base c s (eqb-true c 129 g) in
        rw k (subst (λ (b : ℕ). Name (b ∷ take (suc (suc (first_or 0 s))) s)) (sym (eqb-true c 129 g)) (counted_one s (omega arith)))
    go false e false g true h l =
        let k = length_two_base c s (eqb-true c 130 h) in
        rw k (subst (λ (b : ℕ). Name (b ∷ take (suc (suc (suc (first_or 0 s)))) s)) (sym (eqb-true c 130 h)) (counted_two s (omega arith)))
    go false e false g false h l =
        rw (length_plain c s (eqb-false c 128 e) (eqb-false c 129 g) (eqb-false c 130 h)) (plain (plain_front (c ∷ s)))

pub is_name⇒NameIn : (field : List ℕ) → is_name field ≡ true → NameIn field (name_of field)
unfolding is_name name_of
is_name⇒NameIn field e =
    let p = both⁻¹ (leb (name_length field) (length field)) (is_filled (drop (name_length field) field)) e in
    record {
      coded = name_front field (leb-true (name_length field) (length field) p.0);
      fill = drop (name_length field) field;
      filled = filled⇒Filled (drop (name_length field) field) p.1;
      joined = sym (take-append-drop (name_length field) field);
    }

-- a field is taken for a name's exactly if it holds a name
pub name_exactly : (field : List ℕ) → (is_name field ≡ true) ↔ ((name : List ℕ) × NameIn field name)
name_exactly field = (λ e. (name_of field, is_name⇒NameIn field e), λ p. (NameIn⇒is_name field p.0 p.1).0)

-- our record is the name and the 14 bytes behind its field
pub record_is : (x : ℕ) (adn name : List ℕ) → NameIn (take x adn) name → record_of x adn ≡ name ++ drop x adn
unfolding record_of
record_is x adn name i = ap (λ (s : List ℕ). s ++ drop x adn) (NameIn⇒is_name (take x adn) name i).1
