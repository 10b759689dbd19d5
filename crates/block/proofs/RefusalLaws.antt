-- Which numbers the blocks of a file are refused with: 10 to 16 and 21.
-- Assumes nothing.
use mathlib.Core.Bool.{Bool, true, false, cond}
use mathlib.Core.List.{List, []}
use Prim.Native.Nat.{ℕ, ◌+◌, ◌-◌}
use lib.ListN.{length, take}
use Rattle.outcome.specs.Outcome.{answer, ◌>>=◌}
use Rattle.outcome.proofs.RefusalLaws.{Refuses, refuses_answer, refuses_bind, refuses_rule}
use Rattle.items.proofs.RefusalItemsLaws.{refuses_items}
use Rattle.framing.specs.declared.Frame.{Frame}
use Rattle.framing.specs.Frame.{number_at, framed, frame_at, sound_frame_at}
use Rattle.framing.proofs.RefusalLaws.{number_refuses}
use Rattle.payload.specs.Payload.{text_at, entry_at, records_at, entries_at}
use Rattle.payload.proofs.RefusalLaws.{text_refuses, entry_refuses, payload_refuses}
use Rattle.block.specs.Block.{Block, is_data, is_ordinary, block_in, block_at, block_step, blocks_at}

module _ (Kind : ℕ → Type 0) (k10 : Kind 10) (k11 : Kind 11) (k12 : Kind 12) (k13 : Kind 13) (k14 : Kind 14) (k15 : Kind 15) (k16 : Kind 16)
    (k21 : Kind 21) where
  pub frame_refuses : (file : List ℕ) (at : ℕ) → Refuses Kind (sound_frame_at file at)
  unfolding sound_frame_at frame_at framed
  frame_refuses file at =
      refuses_bind Kind (frame_at file at) _
      (refuses_bind Kind (number_at 10 at file at) (framed file at) (number_refuses Kind k11 k12 10 at file at k10)
      (λ L. refuses_rule Kind _ 13 at _ k13 (refuses_rule Kind _ 10 at _ k10 (refuses_answer Kind _))))
      (λ f. refuses_rule Kind _ 14 at _ k14 (refuses_answer Kind f))

  pub inside_refuses : (file : List ℕ) (f : Frame) → Refuses Kind (block_in file f)
  unfolding block_in records_at entries_at
  inside_refuses file f = go (is_data f.level) (is_ordinary f.level)
    where
      s : List ℕ
      s = take f.end file

      go : (d o : Bool)
          → Refuses {A = Block} Kind (cond d (records_at f.start s (f.body + 1) >>= λ rs. answer (record { frame = f; records = rs; entries = [] }))
          (cond o (entries_at f.start s (f.body + 1) >>= λ es. answer (record { frame = f; records = []; entries = es }))
          (answer (record { frame = f; records = []; entries = [] }))))
      go true o =
          refuses_bind Kind (records_at f.start s (f.body + 1)) _
          (payload_refuses Kind k11 k12 k15 (text_at f.start s) (λ r. r) 16 f.start (length s) (f.body + 1) k16
          (text_refuses Kind k11 k12 k15 f.start s))
          (λ rs. refuses_answer Kind _)
      go false true =
          refuses_bind Kind (entries_at f.start s (f.body + 1)) _
          (payload_refuses Kind k11 k12 k15 (entry_at f.start s) (λ e. e.key) 21 f.start (length s) (f.body + 1) k21
          (entry_refuses Kind k11 k12 k15 f.start s))
          (λ es. refuses_answer Kind _)
      go false false = refuses_answer Kind _

  pub blocks_refuses : (file : List ℕ) (at : ℕ) → Refuses Kind (blocks_at file at)
  unfolding blocks_at block_step block_at
  blocks_refuses file at =
      refuses_items Kind (block_step file) (length file)
      (λ a. refuses_bind Kind (block_at file a) _ (refuses_bind Kind (sound_frame_at file a) (block_in file) (frame_refuses file a) (inside_refuses file))
      (λ b. refuses_answer Kind _))
      (length file - at) at
