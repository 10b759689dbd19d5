-- What stands in the output from begin until finish.
use Rattle.std.specs.Prelude.{ℕ, ◌+◌, ◌-◌, ◌≤◌, ◌≡◌, List, map, length, take, drop}
use Rattle.output_list.specs.OutputList.{zeros}
use Rattle.part.specs.Part.{part}
use Rattle.header.specs.Header.{unfinished_magic, codec_none, H, M}
use Rattle.block.specs.Block.{Block}
use Rattle.theorems_check.specs.Rules.{Fill, Stands}
use Rattle.session_value.specs.declared.Session.{Session}
use Rattle.session_value.specs.Stage.{Draft, draft_blocks}

pub record BegunByRules (d : Draft) (session : Session) (output : List ℕ) : Type 0 where
  -- the magic is the unfinished one
  pub unfinished : take 8 output ≡ unfinished_magic
  -- zeros for the root's offset and length, the total length, the hash, and the CRC of the header data
  pub no_root : part output 16 8 ≡ zeros 8
  pub no_root_length : part output 24 8 ≡ zeros 8
  pub no_total : part output 32 8 ≡ zeros 8
  pub no_hash : part output 40 32 ≡ zeros 32
  pub no_crc : part output (16 + H output) 8 ≡ zeros 8
  -- the other fields are those of the finished file
  pub header_long : H output ≡ 80 + M output
  pub codec : part output 72 16 ≡ codec_none
  pub metadata_is : part output 96 (M output) ≡ d.metadata
  -- from 24 + H up to the next block's offset stand the data blocks, the open one framed as the others, its CRC included
  pub blocks : List Block
  pub stand : Fill (Stands (take session.next output)) session.next (24 + H output) blocks
  pub hold : map (λ b. map (λ r. r.bytes) b.records) blocks ≡ draft_blocks d
  -- zeros behind
  pub within : session.next ≤ length output
  pub behind : drop session.next output ≡ zeros (length output - session.next)
