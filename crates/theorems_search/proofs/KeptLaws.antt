-- Laws of `Kept`, the elements of a list of which a property holds, in their order, and of `Once`.
-- Assumes nothing.
use mathlib.Core.Path.{◌≡◌, refl, sym, ap, subst}
use mathlib.Core.Logic.{◌⊎◌, inl, inr}
use mathlib.Core.Bool.{Bool, true, false, cond}
use mathlib.Core.List.Memᴰ
use mathlib.Core.List.{List, [], ◌∷◌, ◌++◌, flat_map, Memᴰ}
use Prim.Native.Nat.{ℕ, ◌≤◌}
use native.Mathlib.Omega.{arith}
use lib.ListN.{length, length-append}
use Rattle.lists.specs.Lists.{keep}
use Rattle.lists.proofs.RisingLaws.{Distinct, member_split}
use Rattle.theorems_tree.specs.Preorder.{Kept, no_more, taken, left_out, Once, empty, another}

module _ {A : Type 0} (P : A → Type 0) where
  -- ---- lists put together

  pub kept_append : (xs ys xs' ys' : List A) → Kept P xs xs' → Kept P ys ys' → Kept P (xs ++ ys) (xs' ++ ys')
  kept_append xs ys xs' ys' no_more l = l
  kept_append xs ys xs' ys' (taken {xs = more} {ys = more'} p k) l = taken p (kept_append more ys more' ys' k l)
  kept_append xs ys xs' ys' (left_out {xs = more} n k) l = left_out n (kept_append more ys xs' ys' k l)

  pub kept_flat_map : {B : Type 0} (f g : B → List A) (es : List B) → ((e : B) → Memᴰ e es → Kept P (f e) (g e)) → Kept P (flat_map f es) (flat_map g es)
  unfolding flat_map
  kept_flat_map f g [] h = no_more
  kept_flat_map {B} f g (e ∷ es) h =
      kept_append (f e) (flat_map f es) (g e) (flat_map g es) (h e (Memᴰ.head refl))
      (kept_flat_map f g es (λ (x : B) (m : Memᴰ x es). h x (Memᴰ.tail m)))

  -- where the property holds of no element
  pub kept_none : (xs : List A) → ((x : A) → Memᴰ x xs → P x → ⊥) → Kept P xs []
  kept_none [] h = no_more
  kept_none (x ∷ xs) h = left_out (h x (Memᴰ.head refl)) (kept_none xs (λ (y : A) (m : Memᴰ y xs). h y (Memᴰ.tail m)))

  -- where a test decides the property
  pub kept_decided : (test : A → Bool) (xs : List A) → ((x : A) → Memᴰ x xs → test x ≡ true → P x)
      → ((x : A) → Memᴰ x xs → test x ≡ false → P x → ⊥) → Kept P xs (keep test xs)
  unfolding keep
  kept_decided test [] holds fails = no_more
  kept_decided test (x ∷ xs) holds fails =
      go (test x) refl
      (kept_decided test xs (λ (y : A) (m : Memᴰ y xs). holds y (Memᴰ.tail m)) (λ (y : A) (m : Memᴰ y xs). fails y (Memᴰ.tail m)))
    where
      go : (b : Bool) → test x ≡ b → Kept P xs (keep test xs) → Kept P (x ∷ xs) (cond b (x ∷ keep test xs) (keep test xs))
      go true e rest = taken (holds x (Memᴰ.head refl) e) rest
      go false e rest = left_out (fails x (Memᴰ.head refl) e) rest

  -- ---- members

  -- what is kept are elements with the property
  pub kept_member : (xs ys : List A) → Kept P xs ys → (x : A) → Memᴰ x ys → Memᴰ x xs × P x
  kept_member xs ys no_more x m = absurd (Memᴰ.not-nil m)
  kept_member xs ys (taken {x = y} {xs = more} {ys = more'} p k) x m = go (Memᴰ.cases_cons m) (λ (i : Memᴰ x more'). kept_member more more' k x i)
    where
      go : (x ≡ y) ⊎ Memᴰ x more' → (Memᴰ x more' → Memᴰ x more × P x) → Memᴰ x (y ∷ more) × P x
      go (inl same) rest = (Memᴰ.head same, subst P (sym same) p)
      go (inr inside) rest = let r = rest inside in (Memᴰ.tail r.0, r.1)
  kept_member xs ys (left_out {xs = more} n k) x m = let r = kept_member more ys k x m in (Memᴰ.tail r.0, r.1)

  -- and all of them
  pub member_kept : (xs ys : List A) → Kept P xs ys → (x : A) → Memᴰ x xs → P x → Memᴰ x ys
  member_kept xs ys no_more x m p = absurd (Memᴰ.not-nil m)
  member_kept xs ys (taken {x = y} {xs = more} {ys = more'} _ k) x m p = go (Memᴰ.cases_cons m) (λ (i : Memᴰ x more). member_kept more more' k x i p)
    where
      go : (x ≡ y) ⊎ Memᴰ x more → (Memᴰ x more → Memᴰ x more') → Memᴰ x (y ∷ more')
      go (inl same) rest = Memᴰ.head same
      go (inr inside) rest = Memᴰ.tail (rest inside)
  member_kept xs ys (left_out {x = y} {xs = more} n k) x m p = go (Memᴰ.cases_cons m) (λ (i : Memᴰ x more). member_kept more ys k x i p)
    where
      go : (x ≡ y) ⊎ Memᴰ x more → (Memᴰ x more → Memᴰ x ys) → Memᴰ x ys
      go (inl same) rest = absurd (n (subst P same p))
      go (inr inside) rest = rest inside

  -- the list is determined
  pub kept_unique : (xs ys zs : List A) → Kept P xs ys → Kept P xs zs → ys ≡ zs
  kept_unique xs ys zs no_more no_more = refl
  kept_unique xs ys zs (taken {x = x} {xs = more} {ys = ys'} p k) (taken {ys = zs'} _ l) = ap (λ (r : List A). x ∷ r) (kept_unique more ys' zs' k l)
  kept_unique xs ys zs (taken p k) (left_out n l) = absurd (n p)
  kept_unique xs ys zs (left_out n k) (taken p l) = absurd (n p)
  kept_unique xs ys zs (left_out {xs = more} n k) (left_out _ l) = kept_unique more ys zs k l

  -- ---- order

  -- a kept element stands in the list between elements of which those in front and after are kept
  pub kept_split : (xs ys : List A) → Kept P xs ys → (front : List A) (y : A) (back : List A) → ys ≡ front ++ (y ∷ back)
      → (before : List A) × (after : List A) × (xs ≡ before ++ (y ∷ after)) × Kept P before front × Kept P after back
  kept_split xs ys no_more [] y back e = absurd (Memᴰ.not-nil (subst (Memᴰ y) (sym e) (Memᴰ.head refl)))
  kept_split xs ys no_more (z ∷ front) y back e = absurd (Memᴰ.not-nil (subst (Memᴰ z) (sym e) (Memᴰ.head refl)))
  kept_split xs ys (taken {x = x} {xs = more} {ys = more'} p k) [] y back e =
      let same : x ≡ y = cc in
      let rest : more' ≡ back = cc in
      ([], more, ap (λ (z : A). z ∷ more) same, no_more, subst (Kept P more) rest k)
  kept_split xs ys (taken {x = x} {xs = more} {ys = more'} p k) (z ∷ front) y back e =
      let same : x ≡ z = cc in
      let rest : more' ≡ front ++ (y ∷ back) = cc in
      let r = kept_split more more' k front y back rest in
      (x ∷ r.0, r.1, ap (λ (l : List A). x ∷ l) r.2, subst (λ (w : A). Kept P (x ∷ r.0) (w ∷ front)) same (taken p r.3), r.4)
  kept_split xs ys (left_out {x = x} {xs = more} n k) front y back e =
      let r = kept_split more ys k front y back e in
      (x ∷ r.0, r.1, ap (λ (l : List A). x ∷ l) r.2, left_out n r.3, r.4)

-- ---- numbers that are all different

pub kept_distinct : (P : ℕ → Type 0) (xs ys : List ℕ) → Kept P xs ys → Distinct xs → Distinct ys
unfolding Distinct
kept_distinct P xs ys no_more h = tt
kept_distinct P xs ys (taken {x = x} {xs = more} {ys = more'} p k) h =
    (λ (m : Memᴰ x more'). h.0 (kept_member P more more' k x m).0, kept_distinct P more more' k h.1)
kept_distinct P xs ys (left_out {xs = more} n k) h = kept_distinct P more ys k h.1

pub Distinct⇒Once : (xs : List ℕ) → Distinct xs → Once xs
unfolding Distinct
Distinct⇒Once [] h = empty
Distinct⇒Once (x ∷ xs) h = another h.0 (Distinct⇒Once xs h.1)

-- a kept part of numbers that are all different has none twice
pub kept_once : (P : ℕ → Type 0) (xs ys : List ℕ) → Kept P xs ys → Distinct xs → Once ys
kept_once P xs ys k h = Distinct⇒Once ys (kept_distinct P xs ys k h)

-- ---- lengths

-- no more are kept than there are
pub kept_few : {A : Type 0} (P : A → Type 0) (xs ys : List A) → Kept P xs ys → length ys ≤ length xs
kept_few P xs ys no_more = omega arith
kept_few P xs ys (taken {xs = more} {ys = more'} p k) = let rest = kept_few P more more' k in omega arith
kept_few P xs ys (left_out {xs = more} n k) = let rest = kept_few P more ys k in omega arith

-- numbers of which none occurs twice are no more than a list that has them all
pub once_few : (xs ys : List ℕ) → Once xs → ((x : ℕ) → Memᴰ x xs → Memᴰ x ys) → length xs ≤ length ys
once_few xs ys empty among = omega arith
once_few xs ys (another {x = x} {xs = more} new once) among =
    go (member_split ys x (among x (Memᴰ.head refl))) (λ zs inside. once_few more zs once inside)
  where
    go : (before : List ℕ) × (after : List ℕ) × (ys ≡ before ++ (x ∷ after))
        → ((zs : List ℕ) → ((y : ℕ) → Memᴰ y more → Memᴰ y zs) → length more ≤ length zs) → length (x ∷ more) ≤ length ys
    go (before, after, split) rest =
        let fewer = rest (before ++ after) (λ y m. other y m (Memᴰ.append_cases before (subst (Memᴰ y) split (among y (Memᴰ.tail m))))) in
        let whole = ap length split in
        let long = length-append before (x ∷ after) in
        let short = length-append before after in
        omega arith
      where
        other : (y : ℕ) → Memᴰ y more → Memᴰ y before ⊎ Memᴰ y (x ∷ after) → Memᴰ y (before ++ after)
        other y m (inl early) = Memᴰ.append_left after early
        other y m (inr late) = either (Memᴰ.cases_cons late)
          where
            either : (y ≡ x) ⊎ Memᴰ y after → Memᴰ y (before ++ after)
            either (inl same) = absurd (new (subst (λ (z : ℕ). Memᴰ z more) same m))
            either (inr later) = Memᴰ.append_right before later
