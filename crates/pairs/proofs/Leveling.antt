-- One level.
use Rattle.std.proofs.Common.{ℕ, ◌+◌, ◌<◌, ◌≤◌, List, arith, below_more}
use Rattle.meaning.specs.Machines.{Meaning}
use Rattle.pairs.specs.declared.pair.Pair.{Pair}
use Rattle.pairs.specs.Readers.{Reader}
use Rattle.pairs.specs.Stages.{Tally, StageOf, KeptFrom, GoodFrom, Left, LevelPart}
use Rattle.pairs.proofs.Cover.{kept_grows, good_grows}
use Rattle.pairs.proofs.Leaving.{goes_join}

module _ (m : Meaning) (r : Reader) (rows : ℕ) where
  pub part_more : (E : List Pair) (k : Tally) (low x : ℕ) (F : List Pair) (k' : Tally) (G : List Pair) (k'' : Tally) → x < k.base → StageOf m r rows E k → LevelPart m r rows E k low x F k' → Left m r rows F k' x G k'' → LevelPart m r rows E k low (x + 1) G k''
  part_more E k low x F k' G k'' l s h n =
      let b : (i : ℕ) → i < x → i < k'.count = λ i a. omega (arith, s.begun, h.goes.grows.more) in
      record {
        goes = goes_join m r rows E k F k' G k'' h.goes n.goes;
        kept = λ z i a u. below_more (λ i. low ≤ i → KeptFrom m r G k''.count i) x
            (λ i u a. kept_grows m r F k'.count G k''.count i n.goes.grows (b i u) (h.kept (n.goes.sticky z) i a u))
            (λ a. n.kept z) i u a;
        good = λ i a u. below_more (λ i. low ≤ i → GoodFrom m r G i) x
            (λ i u a. good_grows m r F k'.count G k''.count i n.goes.grows (b i u) (h.good i a u))
            (λ a. n.good) i u a;
      }
