-- The exits of reading a rule.
use Rattle.std.proofs.Common.{◌≡◌, ℕ, ◌-◌, ◌<◌, List, drop, Some, None, Ok, Err, Option, Result, sym, refl, ap, ◌∙◌, subst, arith, Bor}
use Rattle.logic.specs.Formula.{Formula, next}
use Rattle.texts.specs.declared.words.Leaf.{Leaf}
use Rattle.texts.specs.declared.words.Leaf.TheVariants.{True, False, Name}
use Rattle.texts.specs.declared.words.Unary.{Unary}
use Rattle.texts.specs.declared.words.Unary.TheVariants.{Not, Next, Finally, Globally}
use Rattle.texts.specs.declared.words.Binary.{Binary}
use Rattle.texts.specs.declared.words.Binary.TheVariants.{And, Or, Implies, Until, Release}
use Rattle.texts.specs.declared.words.Word.TheVariants.{Zero, One, Two}
use Rattle.formulas.specs.declared.node.Node.{Node}
use Rattle.meaning.specs.declared.refusals.RuleFault.{RuleFault}
use Rattle.texts.specs.Words.{heads}
use Rattle.formulas.specs.Nodes.{made_of, reach}
use Rattle.texts.specs.Listed.{add, added}
use Rattle.rules.specs.declared.sign.Sign.{Sign}
use Rattle.rules.specs.declared.sign.Sign.TheVariants.{Positive, Negated}
use Rattle.rules.specs.Nodes.{Means, Interned}
use Rattle.rules.specs.Readings.{binary_formula, Outcome, Both, Reads}
use Rattle.rules.specs.Signs.{reading_of, flipped, left_sign, leaf_node, signed}
use Rattle.logic.specs.Rule.{Rule}
use Rattle.texts.specs.Shapes.{leaf, unary, binary}
use Rattle.texts.specs.Parse.{parse}
use Rattle.texts.proofs.OfParse.{err_read, leaf_read, one_read, first_read, second_read}
use Rattle.rules.proofs.OfBuilt.{Interning, interned_outcome}

abbrev pub ReadOk : (Rule → Formula) → List (List ℕ) → ℕ → ℕ → List ℕ → List Formula → List Node → Option ℕ → List ℕ → Type 0
ReadOk pol ns total d w gs nodes k rest = (r : Rule) × (parse ns total d w ≡ Ok (r, rest)) × Outcome gs (pol r) k nodes

abbrev pub Reading : (Rule → Formula) → List (List ℕ) → ℕ → ℕ → List ℕ → List Node → List Node → Option ℕ → List ℕ → Type 0
Reading pol ns total d w n0 n1 k rest = (gs : List Formula) → Means n0 gs → ReadOk pol ns total d w gs n1 k rest

-- after a reading the nodes mean something
some_means : (gs : List Formula) (f : Formula) (k : Option ℕ) (nodes : List Node) → Outcome gs f k nodes → (hs : List Formula) × Means nodes hs
some_means gs f (Some k) nodes o = (added gs f, o.0)
some_means gs f None nodes o = o.0

-- ---- signs

not_is : (s s' : Sign) → s' ≡ flipped s → (q : Rule) → reading_of s (unary Not q) ≡ reading_of s' q
not_is Positive s' e q = ap (λ (x : Sign). reading_of x q) (sym e)
not_is Negated s' e q = ap (λ (x : Sign). reading_of x q) (sym e)

next_is : (s : Sign) (q : Rule) → reading_of s (unary Next q) ≡ next (reading_of s q)
next_is Positive q = refl
next_is Negated q = refl

-- F is `true U`, and G is `false V`
pub finally_is : (s : Sign) (q : Rule) → reading_of s (unary Finally q) ≡ binary_formula (signed s Until) (reading_of s (leaf True)) (reading_of s q)
finally_is Positive q = refl
finally_is Negated q = refl

pub globally_is : (s : Sign) (q : Rule) → reading_of s (unary Globally q) ≡ binary_formula (signed s Release) (reading_of s (leaf False)) (reading_of s q)
globally_is Positive q = refl
globally_is Negated q = refl

two_is : (s : Sign) (o : Binary) (p q : Rule) → reading_of s (binary o p q) ≡ binary_formula (signed s o) (reading_of (left_sign s o) p) (reading_of s q)
two_is Positive And p q = refl
two_is Positive Or p q = refl
two_is Positive Implies p q = refl
two_is Positive Until p q = refl
two_is Positive Release p q = refl
two_is Negated And p q = refl
two_is Negated Or p q = refl
two_is Negated Implies p q = refl
two_is Negated Until p q = refl
two_is Negated Release p q = refl

leaf_reach : (s : Sign) (l : Leaf) → reach (leaf_node s l) ≡ 0
leaf_reach Positive True = refl
leaf_reach Positive False = refl
leaf_reach Positive (Name i) = refl
leaf_reach Negated True = refl
leaf_reach Negated False = refl
leaf_reach Negated (Name i) = refl

leaf_made : (s : Sign) (l : Leaf) (gs : List Formula) → made_of gs (leaf_node s l) ≡ reading_of s (leaf l)
leaf_made Positive True gs = refl
leaf_made Positive False gs = refl
leaf_made Positive (Name i) gs = refl
leaf_made Negated True gs = refl
leaf_made Negated False gs = refl
leaf_made Negated (Name i) gs = refl

leaf_added : (s : Sign) (l : Leaf) (gs : List Formula) → added gs (reading_of s (leaf l)) ≡ add (reading_of s (leaf l)) gs
unfolding added
leaf_added Positive True gs = refl
leaf_added Positive False gs = refl
leaf_added Positive (Name i) gs = refl
leaf_added Negated True gs = refl
leaf_added Negated False gs = refl
leaf_added Negated (Name i) gs = refl

leaf_outcome : (s : Sign) (l : Leaf) (node : Node) (n0 n1 : List Node) (k : Option ℕ) → node ≡ leaf_node s l → Interning n0 node k n1 → (gs : List Formula) → Means n0 gs → Outcome gs (reading_of s (leaf l)) k n1
leaf_outcome s l node n0 n1 k e kept gs m =
    let z : reach node ≡ 0 = ap reach e ∙ leaf_reach s l in
    interned_outcome gs gs (reading_of s (leaf l)) k n1 (leaf_added s l gs) (subst (λ (x : Formula). Interned gs x k n1) (ap (made_of gs) e ∙ leaf_made s l gs) (kept gs m (omega arith)))

-- ---- refusals

read_err : (pol : Rule → Formula) (ns : List (List ℕ)) (total d : ℕ) (w : List ℕ) (gs : List Formula) (nodes : List Node) (r : Result (Option ℕ × Bor (List ℕ)) RuleFault) (y : RuleFault)
    → r ≡ Err y → parse ns total d w ≡ Err y → Reads pol ns total d w gs nodes r
read_err pol ns total d w gs nodes r y e p = subst (Reads pol ns total d w gs nodes) (sym e) p

pub err_head : (pol : Rule → Formula) (ns : List (List ℕ)) (total d : ℕ) (w : List ℕ) (gs : List Formula) (nodes : List Node) (r : Result (Option ℕ × Bor (List ℕ)) RuleFault) (z : RuleFault)
    → r ≡ Err z → heads ns total d w ≡ Err z → Reads pol ns total d w gs nodes r
err_head pol ns total d w gs nodes r z e h = read_err pol ns total d w gs nodes r z e (err_read ns total d w z h)

pub err_one : (pol : Rule → Formula) (ns : List (List ℕ)) (total d : ℕ) (w a : List ℕ) (o : Unary) (gs : List Formula) (nodes : List Node) (r : Result (Option ℕ × Bor (List ℕ)) RuleFault) (z : RuleFault)
    → 0 < d → heads ns total d w ≡ Ok (One o, a) → r ≡ Err z → parse ns total (d - 1) a ≡ Err z → Reads pol ns total d w gs nodes r
err_one pol ns total d w a o gs nodes r z b h e p = read_err pol ns total d w gs nodes r z e (one_read ns total d w a o _ b h p)

pub err_unit : (s : Sign) (l : Leaf) (ns : List (List ℕ)) (total d : ℕ) (w a : List ℕ) (o : Unary) (gs : List Formula) (nodes : List Node) (r : Result (Option ℕ × Bor (List ℕ)) RuleFault) (z : RuleFault)
    (node : Node) (n0 n1 : List Node) (k : Option ℕ) → node ≡ leaf_node s l → Interning n0 node k n1 → Means n0 gs
    → 0 < d → heads ns total d w ≡ Ok (One o, a) → r ≡ Err z → ((hs : List Formula) → Means n1 hs → parse ns total (d - 1) a ≡ Err z) → Reads (reading_of s) ns total d w gs nodes r
err_unit s l ns total d w a o gs nodes r z node n0 n1 k i kept m b h e p =
    let g = some_means gs (reading_of s (leaf l)) k n1 (leaf_outcome s l node n0 n1 k i kept gs m) in
    err_one (reading_of s) ns total d w a o gs nodes r z b h e (p g.0 g.1)

pub err_first : (pol : Rule → Formula) (ns : List (List ℕ)) (total d : ℕ) (w a : List ℕ) (o : Binary) (gs : List Formula) (nodes : List Node) (r : Result (Option ℕ × Bor (List ℕ)) RuleFault) (z : RuleFault)
    → 0 < d → heads ns total d w ≡ Ok (Two o, a) → r ≡ Err z → parse ns total (d - 1) a ≡ Err z → Reads pol ns total d w gs nodes r
err_first pol ns total d w a o gs nodes r z b h e p = read_err pol ns total d w gs nodes r z e (first_read ns total d w a o _ b h p)

pub err_second : (pol fst : Rule → Formula) (ns : List (List ℕ)) (total d : ℕ) (w a m n : List ℕ) (o : Binary) (gs : List Formula) (nodes : List Node) (r : Result (Option ℕ × Bor (List ℕ)) RuleFault) (z : RuleFault)
    (n1 : List Node) (k : Option ℕ)
    → 0 < d → heads ns total d w ≡ Ok (Two o, a) → ReadOk fst ns total (d - 1) a gs n1 k m → n ≡ drop 1 m → r ≡ Err z → ((hs : List Formula) → Means n1 hs → parse ns total (d - 1) n ≡ Err z)
    → Reads pol ns total d w gs nodes r
err_second pol fst ns total d w a m n o gs nodes r z n1 k b h q s e p =
    let g = some_means gs (fst q.0) k n1 q.2 in
    read_err pol ns total d w gs nodes r z e (second_read ns total d w a m o q.0 _ b h q.1 (ap (parse ns total (d - 1)) (sym s) ∙ p g.0 g.1))

-- ---- what is read

pub leaf_reads : (s : Sign) (ns : List (List ℕ)) (total d : ℕ) (w a : List ℕ) (l : Leaf) (node : Node) (n0 n1 : List Node) (k : Option ℕ)
    → node ≡ leaf_node s l → heads ns total d w ≡ Ok (Zero l, a) → Interning n0 node k n1 → Reading (reading_of s) ns total d w n0 n1 k a
leaf_reads s ns total d w a l node n0 n1 k e h kept gs m = (leaf l, leaf_read ns total d w a l h, leaf_outcome s l node n0 n1 k e kept gs m)

pub not_reads : (s s' : Sign) (ns : List (List ℕ)) (total d : ℕ) (w a : List ℕ) (gs : List Formula) (nodes : List Node) (r : Result (Option ℕ × Bor (List ℕ)) RuleFault)
    → s' ≡ flipped s → 0 < d → heads ns total d w ≡ Ok (One Not, a) → Reads (reading_of s') ns total (d - 1) a gs nodes r → Reads (reading_of s) ns total d w gs nodes r
not_reads s s' ns total d w a gs nodes (Ok x) e b h p =
    (unary Not p.0, one_read ns total d w a Not _ b h p.1, subst (λ (f : Formula). Outcome gs f x.0 nodes) (sym (not_is s s' e p.0)) p.2)
not_reads s s' ns total d w a gs nodes (Err y) e b h p = one_read ns total d w a Not _ b h p

pub next_reads : (s : Sign) (ns : List (List ℕ)) (total d : ℕ) (w a e : List ℕ) (n0 n1 n2 : List Node) (k r : Option ℕ) → 0 < d → heads ns total d w ≡ Ok (One Next, a)
    → Reading (reading_of s) ns total (d - 1) a n0 n1 k e → ((gs : List Formula) (f : Formula) → Outcome gs f k n1 → Outcome gs (next f) r n2) → Reading (reading_of s) ns total d w n0 n2 r e
next_reads s ns total d w a e n0 n1 n2 k r b h read built gs m =
    let q = read gs m in
    (unary Next q.0, one_read ns total d w a Next _ b h q.1, subst (λ (f : Formula). Outcome gs f r n2) (sym (next_is s q.0)) (built gs (reading_of s q.0) q.2))

-- two readings one after the other
both : (gs : List Formula) (f : Formula) (pol : Rule → Formula) (ns : List (List ℕ)) (total d : ℕ) (w e : List ℕ) (n1 n2 : List Node) (a b : Option ℕ)
    → Outcome gs f a n1 → Reading pol ns total d w n1 n2 b e → (r : Rule) × (parse ns total d w ≡ Ok (r, e)) × Both gs f (pol r) a b n2
both gs f pol ns total d w e n1 n2 (Some i) b o read = let q = read (added gs f) o.0 in (q.0, q.1, (o.1, q.2))
both gs f pol ns total d w e n1 n2 None b o read =
    let q = read o.0.0 o.0.1 in (q.0, q.1, (some_means o.0.0 (pol q.0) b n2 q.2, o.1))

-- an operator with a leaf in front of its operand
pub unit_reads : (s : Sign) (l : Leaf) (o : Unary) (two op : Binary) (node : Node) (ns : List (List ℕ)) (total d : ℕ) (w a e : List ℕ) (n0 n1 n2 n3 : List Node) (t b r : Option ℕ)
    → ((q : Rule) → reading_of s (unary o q) ≡ binary_formula two (reading_of s (leaf l)) (reading_of s q)) → op ≡ two → node ≡ leaf_node s l
    → 0 < d → heads ns total d w ≡ Ok (One o, a) → Interning n0 node t n1
    → Reading (reading_of s) ns total (d - 1) a n1 n2 b e → ((gs : List Formula) (f g : Formula) → Both gs f g t b n2 → Outcome gs (binary_formula op f g) r n3)
    → Reading (reading_of s) ns total d w n0 n3 r e
unit_reads s l o two op node ns total d w a e n0 n1 n2 n3 t b r z y i u h kept read built gs m =
    let k = reading_of s (leaf l) in
    let q = both gs k (reading_of s) ns total (d - 1) a e n1 n2 t b (leaf_outcome s l node n0 n1 t i kept gs m) read in (
      unary o q.0,
      one_read ns total d w a o _ u h q.1,
      subst (λ (f : Formula). Outcome gs f r n3) (ap (λ (x : Binary). binary_formula x k (reading_of s q.0)) y ∙ sym (z q.0)) (built gs k (reading_of s q.0) q.2),
    )

pub two_reads : (s s' : Sign) (o op : Binary) (ns : List (List ℕ)) (total d : ℕ) (w a m n e : List ℕ) (n0 n1 n2 n3 : List Node) (x y r : Option ℕ)
    → s' ≡ left_sign s o → op ≡ signed s o → 0 < d → heads ns total d w ≡ Ok (Two o, a)
    → Reading (reading_of s') ns total (d - 1) a n0 n1 x m → n ≡ drop 1 m → Reading (reading_of s) ns total (d - 1) n n1 n2 y e
    → ((gs : List Formula) (f g : Formula) → Both gs f g x y n2 → Outcome gs (binary_formula op f g) r n3)
    → Reading (reading_of s) ns total d w n0 n3 r e
two_reads s s' o op ns total d w a m n e n0 n1 n2 n3 x y r i j b h first t second built gs means =
    let p = first gs means in
    let f = reading_of s' p.0 in
    let q = both gs f (reading_of s) ns total (d - 1) n e n1 n2 x y p.2 second in (
      binary o p.0 q.0,
      second_read ns total d w a m o p.0 _ b h p.1 (ap (parse ns total (d - 1)) (sym t) ∙ q.1),
      subst (λ (g : Formula). Outcome gs g r n3)
          (ap (λ (z : Binary). binary_formula z f (reading_of s q.0)) j ∙ ap (λ (z : Sign). binary_formula (signed s o) (reading_of z p.0) (reading_of s q.0)) i ∙ sym (two_is s o p.0 q.0)) (built gs f (reading_of s q.0) q.2),
    )
