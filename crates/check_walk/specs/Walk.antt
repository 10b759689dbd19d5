-- 22 to 24 as the walks find them.
use Rattle.std.specs.Prelude.{ℕ, cond, List, eqb}
use Rattle.outcome.specs.Outcome.{Outcome, answer, refused, ◌>>◌}
use Rattle.framing.specs.Frame.{frame_at}
use Rattle.check_walk.specs.declared.keys.Keys.{Keys}
use Rattle.check_walk.specs.Lookup.{level_of}
use Rattle.check_walk.specs.Ascent.{ascent_of}
use Rattle.check_walk.specs.Keys.{no_keys, keys_of}

-- a place that was found, as an outcome: 0 is none
unfoldable pub place_said : (number place : ℕ) → Outcome (Unit {0})
place_said number place = cond (eqb place 0) (answer tt) (refused number place)

-- 23 and 24
unfoldable pub keys_said : Keys → Outcome (Unit {0})
keys_said k = place_said 23 k.unordered >> place_said 24 k.misfit

-- 22, then 23 and 24, down from the block at the root's offset
unfoldable pub walked_of : List ℕ → (root : ℕ) → Outcome (Unit {0})
walked_of file root =
    let level = level_of (frame_at file root) in
    ascent_of file level root 0 >> keys_said (keys_of file level root no_keys)
