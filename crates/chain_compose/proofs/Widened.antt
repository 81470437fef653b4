-- What is placed declares as many locals as are counted.
use Rattle.std.proofs.Common.{◌≡◌, ℕ, ◌+◌, Option, List, length, refl, arith}
use Rattle.element_lang.specs.Rules.{declared_by, declared_in}
use Rattle.element_lang.specs.Tree.{StmtTree, BodyTree}
use Rattle.element_lang.specs.Tree.StmtTree.{choose, repeat}
use Rattle.element_lang.specs.Tree.BodyTree.{done, stmt}
use Rattle.element_print.specs.Lengths.{Lengths}
use Rattle.element_chain.specs.declared.chain.Target.{Target}
use Rattle.element_chain.specs.Chain.{Connected}
use Rattle.element_chain.specs.Compose.{ends_within, element_placed}
use Rattle.element_chain.proofs.GoodWhole.{element_counts, ends_count}
use Rattle.chain_compose.specs.declared.gauge.Gauge.TheVariants.{Locals}
use Rattle.chain_compose.specs.Counts.{stmt_count, body_count, whole_lengths, element_count, end_count}
use Rattle.chain_compose.proofs.Counted.{element_counted, have_counts}

-- locals are counted where they are declared
mutual
  one_declares : (l : Lengths) (s : StmtTree) → stmt_count Locals l s ≡ declared_in s
  one_declares l (choose test first second) = omega (arith, all_declare l first, all_declare l second)
  one_declares l (repeat index count body) = omega (arith, all_declare l body)
  one_declares l _ = refl

  all_declare : (l : Lengths) (b : BodyTree) → body_count Locals l b ≡ declared_by b
  all_declare l done = refl
  all_declare l (stmt s b) = omega (arith, one_declares l s, all_declare l b)

-- what an element declares, with all behind it
pub element_widened : (c : Connected) (n : ℕ) (port : Option ℕ) (e : ℕ) (widths : List ℕ)
    → length (element_placed c (ends_within c n) port e widths).numbering.widths ≡ length widths + element_count Locals c (end_count Locals c n) port e
element_widened c n port e widths =
    omega (
      arith,
      element_counts c n (ends_count c n) port e widths,
      all_declare (whole_lengths c) (element_placed c (ends_within c n) port e widths).body,
      element_counted Locals c n (have_counts Locals c n) port e widths,
    )

-- what stands at the end of a wire declares so many locals
pub ends_widened : (c : Connected) (n : ℕ) (t : Target) (input : ℕ) (widths : List ℕ) → length (ends_within c n t input widths).widths ≡ length widths + end_count Locals c n t input
ends_widened c n t input widths =
    omega (
      arith,
      ends_count c n t input widths,
      all_declare (whole_lengths c) (ends_within c n t input widths).body,
      have_counts Locals c n t input widths,
    )
