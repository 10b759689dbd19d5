-- Laws of what the benchmark calls: a state that absorbed all bytes at once gives the start of their digest.
-- Assumes nothing.
use mathlib.Core.Path.{◌≡◌, sym, ap, ◌∙◌}
use mathlib.Core.Bool.{cond}
use mathlib.Core.List.{List}
use Prim.Native.Nat.{ℕ, ◌^◌, ◌≤◌, ◌<◌}
use native.Mathlib.Omega.{arith}
use lib.ListN.{length, take}
use borrow.Author.Tests.{le-leb, lt-leb}
use Rattle.endian.specs.FixedWidth.{little_endian}
use Rattle.sha256.specs.Sha256.{sha256}
use Rattle.sha256.specs.declared.State.{State}
use Rattle.sha256.specs.State.{begun, absorbed, finished, none, more}
use Rattle.sha256.proofs.StateLaws.{Holds⇒sha256}
use Rattle.bench_exports.specs.Digest.{digest_start}

module _ (s : List ℕ) where
  pub digest_start_long : 2 ^ 30 < length s → 0 ≡ digest_start s
  unfolding digest_start
  digest_start_long h = sym (ap (λ b. cond b (little_endian (take 8 (sha256 s))) 0) (lt-leb (length s) (2 ^ 30) h))

  pub digest_start_short : length s ≤ 2 ^ 30 → little_endian (take 8 (sha256 s)) ≡ digest_start s
  unfolding digest_start
  digest_start_short h = sym (ap (λ b. cond b (little_endian (take 8 (sha256 s))) 0) (le-leb (length s) (2 ^ 30) h))

  -- the digest of a state that absorbed all at once
  pub finished_at_once : length s ≤ 2 ^ 30 → (b : State) → b ≡ begun → (t : State) → t ≡ absorbed b s → (d : List ℕ) → d ≡ finished t
      → little_endian (take 8 d) ≡ digest_start s
  finished_at_once h b eb t et d ed =
      let held : finished (absorbed begun s) ≡ sha256 s = Holds⇒sha256 s (absorbed begun s) (more none s) (omega arith) in
      let same : d ≡ sha256 s = ed ∙ ap finished (et ∙ ap (λ (x : State). absorbed x s) eb) ∙ held in
      ap (λ (x : List ℕ). little_endian (take 8 x)) same ∙ digest_start_short h
