-- What each gauge counts.
use Rattle.std.proofs.Common.{◌≡◌, ℕ, ◌*◌, ◌++◌, length, refl, ap, arith, length-append}
use Rattle.element_lang.specs.Sizes.{writes_of, writes_in}
use Rattle.element_lang.specs.Tree.{StmtTree, BodyTree}
use Rattle.element_lang.specs.Tree.StmtTree.{choose, repeat}
use Rattle.element_lang.specs.Tree.BodyTree.{done, stmt}
use Rattle.element_print.specs.Lengths.{Lengths, stmt_length, body_length}
use Rattle.chain_compose.specs.declared.gauge.Gauge.TheVariants.{Statements, Writes, Uses, Bytes}
use Rattle.chain_compose.specs.Counts.{used_by_head, used_by, used_in, stmt_count, body_count}
use Rattle.chain_compose.specs.Refusals.{statements_of, statements_in}

module _ (l : Lengths) where
  mutual
    one_statement : (s : StmtTree) → stmt_count Statements l s ≡ statements_of s
    one_statement (choose test first second) = omega (arith, all_statements first, all_statements second)
    one_statement (repeat index count body) = omega (arith, all_statements body)
    one_statement _ = refl

    pub all_statements : (b : BodyTree) → body_count Statements l b ≡ statements_in b
    all_statements done = refl
    all_statements (stmt s b) = omega (arith, one_statement s, all_statements b)

  mutual
    one_writes : (s : StmtTree) → stmt_count Writes l s ≡ writes_of s
    one_writes (choose test first second) = omega (arith, all_writes first, all_writes second)
    one_writes (repeat index count body) =
        let inner : count * body_count Writes l body ≡ count * writes_in body = ap (λ (k : ℕ). count * k) (all_writes body) in
        omega (arith, inner)
    one_writes _ = refl

    pub all_writes : (b : BodyTree) → body_count Writes l b ≡ writes_in b
    all_writes done = refl
    all_writes (stmt s b) = omega (arith, one_writes s, all_writes b)

  mutual
    one_uses : (s : StmtTree) → stmt_count Uses l s ≡ length (used_by s)
    one_uses (choose test first second) =
        let outer = length-append (used_by_head (choose test first second)) (used_in first ++ used_in second) in
        let inner = length-append (used_in first) (used_in second) in
        omega (arith, outer, inner, all_uses first, all_uses second)
    one_uses (repeat index count body) =
        omega (arith, length-append (used_by_head (repeat index count body)) (used_in body), all_uses body)
    one_uses _ = refl

    pub all_uses : (b : BodyTree) → body_count Uses l b ≡ length (used_in b)
    all_uses done = refl
    all_uses (stmt s b) = omega (arith, length-append (used_by s) (used_in b), one_uses s, all_uses b)

  mutual
    one_bytes : (s : StmtTree) → stmt_count Bytes l s ≡ stmt_length l s
    one_bytes (choose test first second) = omega (arith, all_bytes first, all_bytes second)
    one_bytes (repeat index count body) = omega (arith, all_bytes body)
    one_bytes _ = refl

    pub all_bytes : (b : BodyTree) → body_count Bytes l b ≡ body_length l b
    all_bytes done = refl
    all_bytes (stmt s b) = omega (arith, one_bytes s, all_bytes b)
