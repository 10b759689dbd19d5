-- 23: the first data block out of order, as the walk finds it, is the one that the check states.
-- Assumes nothing.
use mathlib.Core.Path.{◌≡◌, refl, sym, ap, ◌∙◌}
use mathlib.Core.Logic.{◌≢◌, ◌⊎◌, inl, inr}
use mathlib.Core.Bool.{Bool, true, false, ◌&&◌, not, cond}
use mathlib.Core.List.Memᴰ
use mathlib.Core.List.{List, [], ◌∷◌, ◌++◌, map, flat_map, Memᴰ}
use Prim.Native.Nat.{ℕ, ◌<◌}
use native.Mathlib.Omega.{arith}
use lib.ListN.{length}
use borrow.Author.Tests.{ne_eqb}
use Rattle.byte_string.specs.Order.{at_most}
use Rattle.byte_string.proofs.OrderLaws.{at_most_refl, at_most_trans, nil_at_most}
use Rattle.outcome.specs.Outcome.{◌>>◌, must}
use Rattle.lists.specs.Lists.{all}
use Rattle.outcome.proofs.OutcomeLaws.{kept, broken}
use Rattle.lists.proofs.ListsLaws.{both⁻¹, all_member, member_all, same_tests}
use Rattle.payload.specs.Payload.{Text, rising, rising_from}
use Rattle.block.specs.Block.{Block}
use Rattle.tree.specs.Tree.{block_records}
use Rattle.tree.specs.Stages.{all_at_most, neighbours_of, neighbours}
use Rattle.payload.proofs.ScanLaws.{rising_from-each}
use Rattle.check_walk.specs.Walk.{place_said}
use Rattle.check_walk.proofs.SpanLaws.{last_bytes}
use Rattle.check_walk.proofs.WalkedLaws.{said_none, said_place}
use Rattle.check_walk.proofs.WalkLaws.{first_fits, out_of, records_all}

-- ---- records that rise

-- in rising records each is at most the last, and the last is at most what all are at most
from_last : (x : List ℕ) (rs : List Text) → rising_from x (map (λ r. r.bytes) rs) ≡ true → at_most x (last_bytes x rs) ≡ true
unfolding rising_from last_bytes
from_last x [] h = at_most_refl x
from_last x (r ∷ rs) h = let p = both⁻¹ (at_most x r.bytes) (rising_from r.bytes (map (λ q. q.bytes) rs)) h in at_most_trans x r.bytes (last_bytes r.bytes rs) p.0 (from_last r.bytes rs p.1)

pub from_each : (x : List ℕ) (rs : List Text) → rising_from x (map (λ r. r.bytes) rs) ≡ true → (r : Text) → Memᴰ r rs
    → at_most r.bytes (last_bytes x rs) ≡ true
unfolding rising_from last_bytes
from_each x [] h r m = absurd (Memᴰ.not-nil m)
from_each x (q ∷ rs) h r m =
    let p = both⁻¹ (at_most x q.bytes) (rising_from q.bytes (map (λ s. s.bytes) rs)) h in
    go (Memᴰ.cases_cons m) p.1 (λ (i : Memᴰ r rs). from_each q.bytes rs p.1 r i)
  where
    go : (r ≡ q) ⊎ Memᴰ r rs → rising_from q.bytes (map (λ s. s.bytes) rs) ≡ true
        → (Memᴰ r rs → at_most r.bytes (last_bytes q.bytes rs) ≡ true) → at_most r.bytes (last_bytes q.bytes rs) ≡ true
    go (inl same) k rest = ap (λ (s : Text). at_most s.bytes (last_bytes q.bytes rs)) same ∙ from_last q.bytes rs k
    go (inr inside) k rest = rest inside

-- the last is one of them
pub last_of : (x : Text) (rs : List Text) → (r : Text) × Memᴰ r (x ∷ rs) × (last_bytes x.bytes rs ≡ r.bytes)
unfolding last_bytes
last_of x [] = (x, Memᴰ.head refl, refl)
last_of x (r ∷ rs) = let q = last_of r rs in (q.0, Memᴰ.tail q.1, q.2)

-- all records of one list are at most all of another exactly where its last is at most the other's first
all_pairs : (xs ys : List Text) → 0 < length xs → 0 < length ys → rising (map (λ r. r.bytes) xs) ≡ true → rising (map (λ r. r.bytes) ys) ≡ true
    → all (λ r. all (λ s. at_most r.bytes s.bytes) ys) xs ≡ first_fits (last_bytes [] xs) ys
unfolding rising first_fits last_bytes
all_pairs [] ys some more h k = absurd (omega arith)
all_pairs (x ∷ xs) [] some more h k = absurd (omega arith)
all_pairs (x ∷ xs) (y ∷ ys) some more h k = same_tests (all (λ r. all (λ s. at_most r.bytes s.bytes) (y ∷ ys)) (x ∷ xs)) (at_most (last_bytes x.bytes xs) y.bytes) forth back
  where
    forth : all (λ r. all (λ s. at_most r.bytes s.bytes) (y ∷ ys)) (x ∷ xs) ≡ true → at_most (last_bytes x.bytes xs) y.bytes ≡ true
    forth e =
        let l = last_of x xs in
        ap (λ (b : List ℕ). at_most b y.bytes) l.2
        ∙ all_member (λ s. at_most l.0.bytes s.bytes) (y ∷ ys) (all_member (λ r. all (λ s. at_most r.bytes s.bytes) (y ∷ ys)) (x ∷ xs) e l.0 l.1) y (Memᴰ.head refl)

    low : (r : Text) → (r ≡ x) ⊎ Memᴰ r xs → at_most r.bytes (last_bytes x.bytes xs) ≡ true
    low r (inl same) = ap (λ (s : Text). at_most s.bytes (last_bytes x.bytes xs)) same ∙ from_last x.bytes xs h
    low r (inr inside) = from_each x.bytes xs h r inside

    high : (s : Text) → (s ≡ y) ⊎ Memᴰ s ys → at_most y.bytes s.bytes ≡ true
    high s (inl same) = ap (λ (q : Text). at_most y.bytes q.bytes) same ∙ at_most_refl y.bytes
    high s (inr inside) = rising_from-each y.bytes (map (λ q. q.bytes) ys) k s.bytes (Memᴰ.map (λ (q : Text). q.bytes) inside)

    back : at_most (last_bytes x.bytes xs) y.bytes ≡ true → all (λ r. all (λ s. at_most r.bytes s.bytes) (y ∷ ys)) (x ∷ xs) ≡ true
    back e = member_all (λ r. all (λ s. at_most r.bytes s.bytes) (y ∷ ys)) (x ∷ xs)
        (λ r m. member_all (λ s. at_most r.bytes s.bytes) (y ∷ ys)
        (λ s n. at_most_trans r.bytes (last_bytes x.bytes xs) s.bytes (low r (Memᴰ.cases_cons m)) (at_most_trans (last_bytes x.bytes xs) y.bytes s.bytes e (high s (Memᴰ.cases_cons n)))))

-- ---- neighbours

-- a data block that was read: found at its start, with records that rise
pub record DataBlock (bs : List Block) (d : Block) : Type 0 where
  pub start_some : d.frame.start ≢ 0
  pub found : block_records bs d.frame.start ≡ d.records
  pub some : 0 < length d.records
  pub sorted : rising (map (λ r. r.bytes) d.records) ≡ true

-- a block out of order stays the first
out_of_kept : (bs : List Block) (d : List ℕ) (m : ℕ) (xs : List ℕ) → m ≢ 0 → out_of bs d m xs ≡ m
unfolding out_of
out_of_kept bs d m [] h = refl
out_of_kept bs d m (x ∷ xs) h =
    ap (λ (b : Bool). out_of bs (last_bytes d (block_records bs x)) (cond (b && not (first_fits d (block_records bs x))) x m) xs) (ne_eqb m 0 h)
    ∙ out_of_kept bs (last_bytes d (block_records bs x)) m xs h

last_any : (d : List ℕ) (rs : List Text) → 0 < length rs → last_bytes d rs ≡ last_bytes [] rs
unfolding last_bytes
last_any d [] some = absurd (omega arith)
last_any d (r ∷ rs) some = refl

neighbours_of_walk : (bs : List Block) (a : Block) (ds : List Block) → DataBlock bs a → ((d : Block) → Memᴰ d ds → DataBlock bs d)
    → neighbours_of a ds ≡ place_said 23 (out_of bs (last_bytes [] a.records) 0 (map (λ d. d.frame.start) ds))
unfolding neighbours_of out_of all_at_most
neighbours_of_walk bs a [] first rest = sym (said_none 23 0 refl)
neighbours_of_walk bs a (b ∷ ds) first rest =
    let here = rest b (Memᴰ.head refl) in
    ap (λ (t : Bool). must t 23 b.frame.start >> neighbours_of b ds) (all_pairs a.records b.records first.some here.some first.sorted here.sorted)
    ∙ go here (first_fits (last_bytes [] a.records) b.records) refl (neighbours_of_walk bs b ds here (λ d m. rest d (Memᴰ.tail m)))
  where
    last : List ℕ
    last = last_bytes [] a.records

    go : DataBlock bs b → (t : Bool) → first_fits last b.records ≡ t
        → neighbours_of b ds ≡ place_said 23 (out_of bs (last_bytes [] b.records) 0 (map (λ d. d.frame.start) ds))
        → (must t 23 b.frame.start >> neighbours_of b ds)
        ≡ place_said 23 (out_of bs (last_bytes last (block_records bs b.frame.start)) (cond (not (first_fits last (block_records bs b.frame.start))) b.frame.start 0) (map (λ d. d.frame.start) ds))
    go here true e ih =
        kept true 23 b.frame.start (neighbours_of b ds) refl
        ∙ ih
        ∙ ap (λ (l : List ℕ). place_said 23 (out_of bs l 0 (map (λ d. d.frame.start) ds))) (sym (last_any last b.records here.some))
        ∙ ap (λ (u : Bool). place_said 23 (out_of bs (last_bytes last b.records) (cond (not u) b.frame.start 0) (map (λ d. d.frame.start) ds))) (sym e)
        ∙ ap (λ (rs : List Text). place_said 23 (out_of bs (last_bytes last rs) (cond (not (first_fits last rs)) b.frame.start 0) (map (λ d. d.frame.start) ds))) (sym here.found)
    go here false e ih =
        broken false 23 b.frame.start (neighbours_of b ds) refl
        ∙ sym (said_place 23 b.frame.start here.start_some)
        ∙ ap (place_said 23) (sym (out_of_kept bs (last_bytes last b.records) b.frame.start (map (λ d. d.frame.start) ds) here.start_some))
        ∙ ap (λ (u : Bool). place_said 23 (out_of bs (last_bytes last b.records) (cond (not u) b.frame.start 0) (map (λ d. d.frame.start) ds))) (sym e)
        ∙ ap (λ (rs : List Text). place_said 23 (out_of bs (last_bytes last rs) (cond (not (first_fits last rs)) b.frame.start 0) (map (λ d. d.frame.start) ds))) (sym here.found)

first_of_all : (rs : List Text) → first_fits [] rs ≡ true
unfolding first_fits
first_of_all [] = refl
first_of_all (r ∷ rs) = nil_at_most r.bytes

-- 23 over the data blocks in walk order
pub neighbours_walk : (bs ds : List Block) → ((d : Block) → Memᴰ d ds → DataBlock bs d)
    → neighbours ds ≡ place_said 23 (out_of bs [] 0 (map (λ d. d.frame.start) ds))
unfolding neighbours out_of
neighbours_walk bs [] each = sym (said_none 23 0 refl)
neighbours_walk bs (a ∷ ds) each =
    let here = each a (Memᴰ.head refl) in
    neighbours_of_walk bs a ds here (λ d m. each d (Memᴰ.tail m))
    ∙ ap (λ (rs : List Text). place_said 23 (out_of bs (last_bytes [] rs) 0 (map (λ d. d.frame.start) ds))) (sym here.found)
    ∙ ap (λ (t : Bool). place_said 23 (out_of bs (last_bytes [] (block_records bs a.frame.start)) (cond (not t) a.frame.start 0) (map (λ d. d.frame.start) ds))) (sym (first_of_all (block_records bs a.frame.start)))

-- ---- where no block is out of order all records rise

rising-append : (d : List ℕ) (xs ys : List Text) → rising_from d (map (λ r. r.bytes) xs) ≡ true
    → rising_from (last_bytes d xs) (map (λ r. r.bytes) ys) ≡ true → rising_from d (map (λ r. r.bytes) (xs ++ ys)) ≡ true
unfolding rising_from last_bytes
rising-append d [] ys h k = k
rising-append d (x ∷ xs) ys h k =
    let p = both⁻¹ (at_most d x.bytes) (rising_from x.bytes (map (λ r. r.bytes) xs)) h in
    ap (λ (b : Bool). b && rising_from x.bytes (map (λ r. r.bytes) (xs ++ ys))) p.0 ∙ rising-append x.bytes xs ys p.1 k

first-rising : (d : List ℕ) (rs : List Text) → first_fits d rs ≡ true → rising (map (λ r. r.bytes) rs) ≡ true → rising_from d (map (λ r. r.bytes) rs) ≡ true
unfolding first_fits rising rising_from
first-rising d [] h k = refl
first-rising d (r ∷ rs) h k = ap (λ (b : Bool). b && rising_from r.bytes (map (λ s. s.bytes) rs)) h ∙ k

pub ordered_rising : (bs : List Block) (d : List ℕ) (xs : List ℕ)
    → ((x : ℕ) → Memᴰ x xs → (x ≢ 0) × (rising (map (λ r. r.bytes) (block_records bs x)) ≡ true)) → out_of bs d 0 xs ≡ 0
    → rising_from d (map (λ r. r.bytes) (records_all bs xs)) ≡ true
unfolding out_of flat_map rising_from
ordered_rising bs d [] each h = refl
ordered_rising bs d (x ∷ xs) each h = go (first_fits d (block_records bs x)) refl h (ordered_rising bs (last_bytes d (block_records bs x)) xs (λ y m. each y (Memᴰ.tail m)))
  where
    go : (t : Bool) → first_fits d (block_records bs x) ≡ t → out_of bs (last_bytes d (block_records bs x)) (cond (not t) x 0) xs ≡ 0
        → (out_of bs (last_bytes d (block_records bs x)) 0 xs ≡ 0 → rising_from (last_bytes d (block_records bs x)) (map (λ r. r.bytes) (records_all bs xs)) ≡ true)
        → rising_from d (map (λ r. r.bytes) (block_records bs x ++ records_all bs xs)) ≡ true
    go true e k ih = rising-append d (block_records bs x) (records_all bs xs) (first-rising d (block_records bs x) e (each x (Memᴰ.head refl)).1) (ih k)
    go false e k ih =
        let here = (each x (Memᴰ.head refl)).0 in
        absurd (here (sym (out_of_kept bs (last_bytes d (block_records bs x)) x xs here) ∙ k))
