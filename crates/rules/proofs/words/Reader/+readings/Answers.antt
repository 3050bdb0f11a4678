use Rattle.std.proofs.Common.{rules}
use Rattle.texts.specs.declared.words.Leaf.TheVariants.{True, False}
use Rattle.texts.specs.declared.words.Unary.TheVariants.{Not, Next, Finally, Globally}
use Rattle.texts.specs.declared.words.Word.TheVariants.{One}
use Rattle.texts.proofs.OfWords.{above_one, above_two}
use Rattle.texts.proofs.OfParse.{head_is}
use Rattle.rules.specs.declared.sign.Sign.TheVariants.{Positive, Negated}
use Rattle.rules.specs.Signs.{reading_of}
use Rattle.rules.proofs.Faults.{passed}
use Rattle.rules.proofs.OfNames.{leaf_small}
use Rattle.rules.proofs.OfReading.{err_head, err_one, err_unit, err_first, err_second, leaf_reads, not_reads, next_reads, finally_is, globally_is, unit_reads, two_reads}
use Rattle.rules.proofs.words.Reader.+readings.Goals as goal

pub read-returns-in_err-word-clause-reads : goal.read-returns-in_err-word-clause-reads
read-returns-in_err-word-clause-reads t c =
    let p = passed _ c.in_err-word.field-0.0 c.from_residual.ensures.1 in
    λ gs m. err_head (reading_of c.args.sign) _ _ _ _ gs _ _ _ p c.in_err-word.ensures.is

pub read-returns-in_err-a-in-One-Next-clause-reads : goal.read-returns-in_err-a-in-One-Next-clause-reads
read-returns-in_err-a-in-One-Next-clause-reads t c =
    let p = passed _ c.in_err-a-in-One-Next.field-0.0 c.from_residual-in_err-a-in-One-Next.ensures.1 in
    λ gs m. err_one (reading_of c.args.sign) _ _ _ _ _ _ gs _ _ _ (above_one _ _ _ c.in_ok-word.ensures.above c.in-One-Next.is) (head_is _ _ _ _ _ _ (One Next) c.in_ok-word.ensures.is (search rules)) p (c.in_err-a-in-One-Next.ensures.reads gs m)

pub read-returns-in_err-b-in-One-Finally-clause-reads : goal.read-returns-in_err-b-in-One-Finally-clause-reads
read-returns-in_err-b-in-One-Finally-clause-reads t c =
    let p = passed _ c.in_err-b-in-One-Finally.field-0.0 c.from_residual-in_err-b-in-One-Finally.ensures.1 in
    λ gs m. err_unit c.args.sign True _ _ _ _ _ _ gs _ _ _ _ _ _ _ c.leaf-in-One-Finally.ensures.is c.intern-always.ensures.interned m (above_one _ _ _ c.in_ok-word.ensures.above c.in-One-Finally.is) (head_is _ _ _ _ _ _ (One Finally) c.in_ok-word.ensures.is (search rules)) p c.in_err-b-in-One-Finally.ensures.reads

pub read-returns-in_err-b-in-One-Globally-clause-reads : goal.read-returns-in_err-b-in-One-Globally-clause-reads
read-returns-in_err-b-in-One-Globally-clause-reads t c =
    let p = passed _ c.in_err-b-in-One-Globally.field-0.0 c.from_residual-in_err-b-in-One-Globally.ensures.1 in
    λ gs m. err_unit c.args.sign False _ _ _ _ _ _ gs _ _ _ _ _ _ _ c.leaf-in-One-Globally.ensures.is c.intern-never.ensures.interned m (above_one _ _ _ c.in_ok-word.ensures.above c.in-One-Globally.is) (head_is _ _ _ _ _ _ (One Globally) c.in_ok-word.ensures.is (search rules)) p c.in_err-b-in-One-Globally.ensures.reads

pub read-returns-in_err-a-in-Two-clause-reads : goal.read-returns-in_err-a-in-Two-clause-reads
read-returns-in_err-a-in-Two-clause-reads t c =
    let p = passed _ c.in_err-a-in-Two.field-0.0 c.from_residual-in_err-a-in-Two.ensures.1 in
    λ gs m. err_first (reading_of c.args.sign) _ _ _ _ _ _ gs _ _ _ (above_two _ _ _ c.in_ok-word.ensures.above c.in-Two.is) (head_is _ _ _ _ _ _ _ c.in_ok-word.ensures.is c.in-Two.is) p (c.in_err-a-in-Two.ensures.reads gs m)

pub read-returns-in_err-b-in-Two-clause-reads : goal.read-returns-in_err-b-in-Two-clause-reads
read-returns-in_err-b-in-Two-clause-reads t c =
    let p = passed _ c.in_err-b-in-Two.field-0.0 c.from_residual-in_err-b-in-Two.ensures.1 in
    λ gs m. err_second (reading_of c.args.sign) (reading_of c.of_left.result) _ _ _ _ _ _ _ _ gs _ _ _ _ _ (above_two _ _ _ c.in_ok-word.ensures.above c.in-Two.is) (head_is _ _ _ _ _ _ _ c.in_ok-word.ensures.is c.in-Two.is) (c.in_ok-a-in-Two.ensures.reads gs m) c.skip_space.ensures p c.in_err-b-in-Two.ensures.reads

pub read-returns-in-Zero-clause-reads : goal.read-returns-in-Zero-clause-reads
read-returns-in-Zero-clause-reads t c =
    leaf_reads c.args.sign _ _ _ _ _ _ _ _ _ _ c.leaf.ensures.is (head_is _ _ _ _ _ _ _ c.in_ok-word.ensures.is c.in-Zero.is) c.intern.ensures.interned

pub read-returns-in-Positive-clause-reads : goal.read-returns-in-Positive-clause-reads
read-returns-in-Positive-clause-reads t c =
    λ gs m. not_reads c.args.sign Negated _ _ _ _ _ gs _ _ (search rules) (above_one _ _ _ c.in_ok-word.ensures.above c.in-One-Not.is) (head_is _ _ _ _ _ _ (One Not) c.in_ok-word.ensures.is (search rules)) (c.negated.ensures.reads gs m)

pub read-returns-in-Negated-clause-reads : goal.read-returns-in-Negated-clause-reads
read-returns-in-Negated-clause-reads t c =
    λ gs m. not_reads c.args.sign Positive _ _ _ _ _ gs _ _ (search rules) (above_one _ _ _ c.in_ok-word.ensures.above c.in-One-Not.is) (head_is _ _ _ _ _ _ (One Not) c.in_ok-word.ensures.is (search rules)) (c.positive.ensures.reads gs m)

pub read-returns-in_ok-a-in-One-Next-clause-reads : goal.read-returns-in_ok-a-in-One-Next-clause-reads
read-returns-in_ok-a-in-One-Next-clause-reads t c =
    next_reads c.args.sign _ _ _ _ _ _ _ _ _ _ _ (above_one _ _ _ c.in_ok-word.ensures.above c.in-One-Next.is) (head_is _ _ _ _ _ _ (One Next) c.in_ok-word.ensures.is (search rules)) c.in_ok-a-in-One-Next.ensures.reads c.intern_next.ensures.built

pub read-returns-in_ok-b-in-One-Finally-clause-reads : goal.read-returns-in_ok-b-in-One-Finally-clause-reads
read-returns-in_ok-b-in-One-Finally-clause-reads t c =
    unit_reads c.args.sign True Finally _ _ _ _ _ _ _ _ _ _ _ _ _ _ _ _ (finally_is c.args.sign) c.of.ensures c.leaf-in-One-Finally.ensures.is (above_one _ _ _ c.in_ok-word.ensures.above c.in-One-Finally.is) (head_is _ _ _ _ _ _ (One Finally) c.in_ok-word.ensures.is (search rules)) c.intern-always.ensures.interned c.in_ok-b-in-One-Finally.ensures.reads c.intern_binary.ensures.built

pub read-returns-in_ok-b-in-One-Globally-clause-reads : goal.read-returns-in_ok-b-in-One-Globally-clause-reads
read-returns-in_ok-b-in-One-Globally-clause-reads t c =
    unit_reads c.args.sign False Globally _ _ _ _ _ _ _ _ _ _ _ _ _ _ _ _ (globally_is c.args.sign) c.of-in-One-Globally.ensures c.leaf-in-One-Globally.ensures.is (above_one _ _ _ c.in_ok-word.ensures.above c.in-One-Globally.is) (head_is _ _ _ _ _ _ (One Globally) c.in_ok-word.ensures.is (search rules)) c.intern-never.ensures.interned c.in_ok-b-in-One-Globally.ensures.reads c.intern_binary-in-One-Globally.ensures.built

pub read-returns-in_ok-b-in-Two-clause-reads : goal.read-returns-in_ok-b-in-Two-clause-reads
read-returns-in_ok-b-in-Two-clause-reads t c =
    two_reads c.args.sign c.of_left.result _ _ _ _ _ _ _ _ _ _ _ _ _ _ _ _ _ c.of_left.ensures c.of-in-Two.ensures (above_two _ _ _ c.in_ok-word.ensures.above c.in-Two.is) (head_is _ _ _ _ _ _ _ c.in_ok-word.ensures.is c.in-Two.is) c.in_ok-a-in-Two.ensures.reads c.skip_space.ensures c.in_ok-b-in-Two.ensures.reads c.intern_binary-in-Two.ensures.built

pub read-intern-requires-clause-signal : goal.read-intern-requires-clause-signal
read-intern-requires-clause-signal t c =
    c.leaf.ensures.signal (leaf_small c.args.self.now.names _ _ _ _ _ _ c.in_ok-word.ensures.is c.in-Zero.is)
