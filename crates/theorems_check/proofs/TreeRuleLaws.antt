-- Each rule of the tree holds exactly where its stage of the check is passed. The blocks tile the file.
-- Assumes nothing.
use mathlib.Core.Path.{◌≡◌, refl, sym, ap, ◌∙◌, subst}
use mathlib.Core.Bool.{true}
use mathlib.Core.List.{List, [], ◌∷◌, Memᴰ}
use Prim.Native.Nat.{ℕ, ◌+◌, ◌-◌, ◌≤◌, ◌<◌}
use native.Mathlib.Omega.{arith}
use lib.Dec.{ltb}
use lib.ListN.{length, take, drop}
use borrow.Author.Tests.{ltb-true, lt-ltb}
use Rattle.byte_string.specs.Order.{at_most, begins}
use Rattle.byte_string.proofs.PrefixLaws.{take_begins, begins_of_take}
use Rattle.sha256.specs.Sha256.{sha256}
use Rattle.sha256.proofs.StateLaws.{sha256-length}
use Rattle.outcome.specs.Outcome.{answer}
use Rattle.part.specs.Part.{part}
use Rattle.payload.specs.Payload.{Text, Entry}
use Rattle.block.specs.Block.{Block}
use Rattle.block.specs.Survey.{ordinary, records_of}
use Rattle.tree.specs.Tree.{names, under, records_before, key_fits}
use Rattle.tree.specs.Stages.{each, entries_fit, keys_fit}
use Rattle.theorems_check.specs.Rules.{Fill, Stands}
use Rattle.lists.proofs.ListsLaws.{both, both⁻¹, all_member, member_all, keep_member, member_keep}
use Rattle.tree.proofs.StageLaws.{each_member, member_each, ordinary_member, member_ordinary, names_true, fit⁻¹}
use Rattle.theorems_check.proofs.TiledLaws.{entry_level, tiled_block}

-- ---- names

-- an entry of a block of this level names a block
abbrev pub Named : List Block → (level : ℕ) → Entry → Type 0
Named bs level e = (c : Block) × Memᴰ c bs × (c.frame.start ≡ e.offset) × (c.frame.size ≡ e.size) × (c.frame.level + 1 ≡ level)

-- ---- the key of an entry

-- the key is at most the first of these records, and at least every record of the file before that one
abbrev pub Keyed : List Block → List ℕ → List Text → Type 0
Keyed bs key rs = (first : Text) (rest : List Text) → rs ≡ first ∷ rest
    → (at_most key first.bytes ≡ true) × ((r : Text) → Memᴰ r (records_of bs) → r.at < first.at → at_most r.bytes key ≡ true)

module _ (bs : List Block) (key : List ℕ) where
  pub key_fits⁻¹ : (rs : List Text) → key_fits bs key rs ≡ true → Keyed bs key rs
  unfolding key_fits records_before
  key_fits⁻¹ rs h first rest e =
      let p = both⁻¹ (at_most key first.bytes) _ (sym (ap (key_fits bs key) e) ∙ h) in (
        p.0,
        λ r m before. all_member (λ q. at_most q.bytes key) (records_before bs first.at) p.1 r
            (member_keep (λ q. ltb q.at first.at) (records_of bs) r m (lt-ltb _ _ before)),
      )

  key_fits_of : (rs : List Text) → Keyed bs key rs → key_fits bs key rs ≡ true
  unfolding key_fits records_before
  key_fits_of [] h = refl
  key_fits_of (first ∷ rest) h =
      let p = h first rest refl in
      both _ _ p.0
      (member_all (λ q. at_most q.bytes key) (records_before bs first.at)
      (λ r m. let q = keep_member (λ q. ltb q.at first.at) (records_of bs) r m in p.1 r q.0 (ltb-true _ _ q.1)))

-- ---- the stages

module _ (file : List ℕ) (from : ℕ) (bs : List Block) (tiled : Fill (Stands file) (length file) from bs) where
  -- a block with an entry is ordinary
  entry_ordinary : (b : Block) → Memᴰ b bs → (e : Entry) → Memᴰ e b.entries → b.frame.level ≤ 63
  entry_ordinary b m e n = (entry_level file b.frame.start b (tiled_block file from bs tiled b m).0 e n).1

  -- 19
  pub fit⇒named : each (entries_fit bs) 19 (ordinary bs) ≡ answer tt
      → (b : Block) → Memᴰ b bs → (e : Entry) → Memᴰ e b.entries → Named bs b.frame.level e
  fit⇒named h b m e n = fit⁻¹ bs h b m (entry_ordinary b m e n) e n

  named⇒names : (level : ℕ) (e : Entry) → level ≤ 63 → Named bs level e → names bs level e ≡ true
  named⇒names level e few n = let lower = n.4 in names_true bs level e n.0 (member_ordinary bs n.0 n.1 (omega arith)) n.2 n.3 lower

  pub named⇒fit : ((b : Block) → Memᴰ b bs → (e : Entry) → Memᴰ e b.entries → Named bs b.frame.level e)
      → each (entries_fit bs) 19 (ordinary bs) ≡ answer tt
  unfolding entries_fit
  named⇒fit h =
      member_each (entries_fit bs) 19 (ordinary bs)
      (λ b i. let o = ordinary_member bs b i in
      member_all (names bs b.frame.level) b.entries (λ e n. named⇒names b.frame.level e o.1 (h b o.0 e n)))

  -- 24
  pub fit⇒keyed : each (keys_fit bs) 24 (ordinary bs) ≡ answer tt
      → (b : Block) → Memᴰ b bs → (e : Entry) → Memᴰ e b.entries → Keyed bs e.key.bytes (under bs (b.frame.level - 1) e.offset)
  unfolding keys_fit
  fit⇒keyed h b m e n =
      key_fits⁻¹ bs e.key.bytes (under bs (b.frame.level - 1) e.offset)
      (all_member (λ x. key_fits bs x.key.bytes (under bs (b.frame.level - 1) x.offset)) b.entries
      (each_member (keys_fit bs) 24 (ordinary bs) h b (member_ordinary bs b m (entry_ordinary b m e n))) e n)

  pub keyed⇒fit : ((b : Block) → Memᴰ b bs → (e : Entry) → Memᴰ e b.entries
      → Keyed bs e.key.bytes (under bs (b.frame.level - 1) e.offset))
      → each (keys_fit bs) 24 (ordinary bs) ≡ answer tt
  unfolding keys_fit
  keyed⇒fit h =
      member_each (keys_fit bs) 24 (ordinary bs)
      (λ b i. member_all (λ x. key_fits bs x.key.bytes (under bs (b.frame.level - 1) x.offset)) b.entries
      (λ e n. key_fits_of bs e.key.bytes (under bs (b.frame.level - 1) e.offset) (h b (ordinary_member bs b i).0 e n)))

-- 25
pub begins⇒hashed : (file m : List ℕ) → begins (sha256 m) (drop 40 file) ≡ true → part file 40 32 ≡ sha256 m
unfolding part
begins⇒hashed file m h = subst (λ (n : ℕ). take n (drop 40 file) ≡ sha256 m) (sha256-length m) (take_begins (sha256 m) (drop 40 file) h)

pub hashed⇒begins : (file m : List ℕ) → part file 40 32 ≡ sha256 m → begins (sha256 m) (drop 40 file) ≡ true
unfolding part
hashed⇒begins file m h = begins_of_take (sha256 m) (drop 40 file) (subst (λ (n : ℕ). take n (drop 40 file) ≡ sha256 m) (sym (sha256-length m)) h)
