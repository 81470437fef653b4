-- How many elements statements declare.
use Rattle.std.proofs.Common.{◌≡◌, ℕ, ◌+◌, ◌≤◌, cond, List, ◌∷◌, ◌++◌, length, take, drop, refl, sym, ap, ◌∙◌, arith, length-append}
use Rattle.std.specs.List.{count_by}
use Rattle.std.proofs.lemmas.List.{take-append-drop}
use Rattle.std.proofs.lemmas.List.Recursion.{is_count_by}
use Rattle.chain_text.specs.declared.statement.Statement.{Statement as Found}
use Rattle.chain_text.specs.declared.statement.Statement.TheVariants.{Declares, Wires}
use Rattle.chain_text.specs.Grammar.{Statement}
use Rattle.chain_text.specs.Reads.{elements_of}
use Rattle.chain_text.specs.Statements.{statements_of, is_declaration}
use Rattle.chain_text.proofs.KnownNames.{elements-append}

-- no more than by all stand before a place
pub few_before : (ss : List Statement) (n : ℕ) → length (elements_of (take n ss)) ≤ length (elements_of ss)
few_before ss n =
    let all : elements_of ss ≡ elements_of (take n ss) ++ elements_of (drop n ss) =
    ap elements_of (sym (take-append-drop n ss)) ∙ elements-append (take n ss) (drop n ss) in
    omega (arith, ap length all, length-append (elements_of (take n ss)) (elements_of (drop n ss)))

one_declared : (text : List ℕ) (s : Found) (ss : List Found) → length (elements_of (statements_of text (s ∷ ss)))
    ≡ cond (is_declaration s) (1 + length (elements_of (statements_of text ss))) (length (elements_of (statements_of text ss)))
one_declared text (Declares element class) ss = omega arith
one_declared text (Wires from output input to) ss = refl

pub declared_count : (text : List ℕ) (ss : List Found) → count_by is_declaration ss ≡ length (elements_of (statements_of text ss))
declared_count text ss = sym (is_count_by (λ l. length (elements_of (statements_of text l))) is_declaration refl (one_declared text) ss)
