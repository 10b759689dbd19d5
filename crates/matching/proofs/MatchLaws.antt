-- Laws of the records that match.
-- Assumes nothing.
use mathlib.Core.Path.{◌≡◌, refl}
use mathlib.Core.Bool.{Bool, true, false}
use mathlib.Core.List.{List, [], ◌∷◌, ◌++◌, Memᴰ}
use Prim.Native.Nat.{◌≤◌}
use lib.ListN.{length}
use Rattle.lists.specs.Lists.{keep}
use Rattle.lists.proofs.ListsLaws.{keep_append, keep_first, keep_later, keep_member, member_keep}
use Rattle.payload.specs.Payload.{Text}
use Rattle.query.specs.Query.{Query, matches}
use Rattle.lists.proofs.CountLaws.{keep_few, keep_narrower}
use Rattle.matching.specs.Matching.{matching}

module _ (q : Query) where
  -- ---- one record at a time

  pub matching_nil : matching q [] ≡ []
  unfolding matching keep
  matching_nil = refl

  pub matching_kept : (r : Text) (rs : List Text) → matches q r.bytes ≡ true → matching q (r ∷ rs) ≡ r ∷ matching q rs
  unfolding matching
  matching_kept r rs e = keep_first (λ t. matches q t.bytes) r rs e

  pub matching_passed : (r : Text) (rs : List Text) → matches q r.bytes ≡ false → matching q (r ∷ rs) ≡ matching q rs
  unfolding matching
  matching_passed r rs e = keep_later (λ t. matches q t.bytes) r rs e

  -- ---- order and number

  -- the records that match in a list of two parts are those of the first and then those of the second
  pub matching-append : (xs ys : List Text) → matching q (xs ++ ys) ≡ matching q xs ++ matching q ys
  unfolding matching
  matching-append xs ys = keep_append (λ r. matches q r.bytes) xs ys

  -- there are at most as many as records
  pub matching_few : (rs : List Text) → length (matching q rs) ≤ length rs
  unfolding matching
  matching_few rs = keep_few (λ r. matches q r.bytes) rs

  -- every test that only matching records pass finds the same records, in the same order and as often
  pub matching_keeps : (test : Text → Bool) → ((r : Text) → test r ≡ true → matches q r.bytes ≡ true) → (rs : List Text)
      → keep test (matching q rs) ≡ keep test rs
  unfolding matching
  matching_keeps test narrow rs = keep_narrower (λ r. matches q r.bytes) test narrow rs

  -- ---- members

  -- a record that is found matches, and is one of the records
  pub matching_member : (r : Text) (rs : List Text) → Memᴰ r (matching q rs) → Memᴰ r rs × (matches q r.bytes ≡ true)
  unfolding matching
  matching_member r rs m = keep_member (λ t. matches q t.bytes) rs r m

  -- a record that matches is found
  pub member_matching : (r : Text) (rs : List Text) → Memᴰ r rs → matches q r.bytes ≡ true → Memᴰ r (matching q rs)
  unfolding matching
  member_matching r rs m e = member_keep (λ t. matches q t.bytes) rs r m e
