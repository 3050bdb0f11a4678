-- A sheet stands for what its parts stand for. Assumes nothing.
use Rattle.std.proofs.Common.{List}
use Rattle.logic.specs.Formula.{Formula}
use Rattle.meaning.specs.Bytes.{Text}
use Rattle.rules.specs.declared.sheet.Sheet.{Sheet}
use Rattle.rules.specs.Model.{Stands}
use Rattle.rules.specs.Led.{SheetStands}

pub by_parts : (s : Sheet) (ns : List Text) (fs : List Formula) → Stands s ns fs → SheetStands s ns fs
by_parts s ns fs st = record { named = st.named; fit = st.fit; means = st.means; count_is = st.count; rooted = st.rooted }

pub of_parts : (s : Sheet) (ns : List Text) (fs : List Formula) → SheetStands s ns fs → Stands s ns fs
of_parts s ns fs st = record { named = st.named; fit = st.fit; means = st.means; count = st.count_is; rooted = st.rooted }
