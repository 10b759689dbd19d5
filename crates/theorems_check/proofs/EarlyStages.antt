-- The stages up to 17, the same for acceptance and for the check: one of them refuses the file, or the tree is reached.
-- Assumes nothing.
use mathlib.Core.Path.{◌≡◌, refl}
use mathlib.Core.Logic.{◌⊎◌, inl, inr}
use mathlib.Core.Bool.{Bool, true, false}
use mathlib.Core.List.{List}
use Prim.Native.Nat.{ℕ, ◌≤◌}
use native.Mathlib.Omega.{arith}
use Rattle.outcome.specs.Outcome.{Outcome, answer, refused}
use Rattle.header.specs.declared.Header.{Header}
use Rattle.header.specs.Header.{header_of, blocks_from}
use Rattle.header.proofs.HeaderLaws.{header_refused}
use Rattle.block.specs.Block.{Block, blocks_at}
use Rattle.tree.specs.Stages.{has_root}
use Rattle.checker.specs.Check.{accept_of, check_of}
use Rattle.checker.proofs.CheckLaws.{Reached, accept_header, accept_unsound, accept_17, check_header, check_unsound, check_17}
use Rattle.theorems_check.proofs.BlockNumbers.{BlockNumber, blocks_numbers}

-- a refusal by the header, the blocks or the root: acceptance and the check agree, whatever the work list
pub record RefusedEarly (file : List ℕ) (number place : ℕ) : Type 0 where
  pub among : ((1 ≤ number) × (number ≤ 17)) ⊎ (number ≡ 21)
  pub by_acceptance : accept_of file ≡ refused number place
  pub by_check : (places : ℕ) → check_of file places ≡ refused number place

-- that, or header, blocks and root are sound and the tree is reached
pub data Stages (file : List ℕ) : Type 0 where
  refuses : (number place : ℕ) → RefusedEarly file number place → Stages file
  reaches : (h : Header) (bs : List Block) → Reached file h bs → Stages file

pub stages : (file : List ℕ) → Stages file
stages file = by_header (header_of file) refl
  where
    by_root : (h : Header) (bs : List Block) → header_of file ≡ answer h → blocks_at file (blocks_from h) ≡ answer bs → (b : Bool) → has_root h bs ≡ b → Stages file
    by_root h bs header blocks true root = reaches h bs (record { header = header; blocks = blocks; root = root })
    by_root h bs header blocks false root =
        refuses 17 0 (record {
          among = inl (omega arith, omega arith);
          by_acceptance = accept_17 file h header bs blocks root;
          by_check = λ places. check_17 file places h header bs blocks root;
        })

    early : (n : ℕ) → BlockNumber n → ((1 ≤ n) × (n ≤ 17)) ⊎ (n ≡ 21)
    early n (inl (low, high)) = inl (omega arith, omega arith)
    early n (inr same) = inr same

    by_blocks : (h : Header) → header_of file ≡ answer h → (o : Outcome (List Block)) → blocks_at file (blocks_from h) ≡ o → Stages file
    by_blocks h header (answer bs) blocks = by_root h bs header blocks (has_root h bs) refl
    by_blocks h header (refused number place) blocks =
        refuses number place (record {
          among = early number ((blocks_numbers file (blocks_from h)).among number place blocks);
          by_acceptance = accept_unsound file h header number place blocks;
          by_check = λ places. check_unsound file places h header number place blocks;
        })

    by_header : (o : Outcome Header) → header_of file ≡ o → Stages file
    by_header (answer h) header = by_blocks h header (blocks_at file (blocks_from h)) refl
    by_header (refused number place) header =
        let numbers = header_refused file number place header in
        refuses number place (record {
          among = inl (numbers.1, omega arith);
          by_acceptance = accept_header file number place header;
          by_check = λ places. check_header file places number place header;
        })
