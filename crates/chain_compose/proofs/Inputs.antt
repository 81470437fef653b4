-- Where bytes aren't counted, the input doesn't matter.
use Rattle.std.proofs.Common.{◌≡◌, ◌≢◌, ℕ, zero, suc, ◌+◌, ◌*◌, ◌<◌, List, [], ◌∷◌, length, refl, ap, ◌∙◌, arith, Some}
use Rattle.element_lang.specs.Tree.{ExprTree, StmtTree, BodyTree}
use Rattle.element_lang.specs.Tree.ExprTree.{lit}
use Rattle.element_lang.specs.Tree.StmtTree.{let_local, choose, repeat, send}
use Rattle.element_lang.specs.Tree.BodyTree.{done, stmt}
use Rattle.element_print.specs.Lengths.{Lengths, capped}
use Rattle.element_chain.specs.declared.chain.Wire.{Wire}
use Rattle.element_chain.specs.declared.chain.Target.{Target}
use Rattle.element_chain.specs.declared.chain.Target.TheVariants.{Element, Out}
use Rattle.element_chain.specs.Chain.{Connected, element_at}
use Rattle.element_chain.specs.Compose.{wires_of}
use Rattle.chain_compose.specs.declared.gauge.Gauge.{Gauge}
use Rattle.chain_compose.specs.declared.gauge.Gauge.TheVariants.{Statements, Writes, Locals, Uses, Bytes}
use Rattle.chain_compose.specs.Counts.{weight, turns, placed_stmt_count, placed_count, whole_lengths, own_lengths, tests_count, sent_count, closing_count, clearing_count, end_count}
use Rattle.chain_compose.specs.Tallies.{told, AreLevels}

of_gauge : (g : Gauge) → g ≢ Bytes → (P : Gauge → Type 0) → P Statements → P Writes → P Locals → P Uses → P g
of_gauge Statements other P s w l u = s
of_gauge Writes other P s w l u = w
of_gauge Locals other P s w l u = l
of_gauge Uses other P s w l u = u
of_gauge Bytes other P s w l u = absurd (other refl)

module _ (g : Gauge) (unread : g ≢ Bytes) where
  plain_weight : (l m : Lengths) (s : StmtTree) → weight g l s ≡ weight g m s
  plain_weight l m s = of_gauge g unread (λ k. weight k l s ≡ weight k m s) refl refl refl refl

  plain_out : (l : Lengths) (i j : ℕ) → weight g l (send (lit i 8)) ≡ weight g l (send (lit j 8))
  plain_out l i j = of_gauge g unread (λ k. weight k l (send (lit i 8)) ≡ weight k l (send (lit j 8))) refl refl refl refl

  module _ (l m : Lengths) (a b : ExprTree → ℕ) (each : (port : ExprTree) → a port ≡ b port) where
    mutual
      plain_stmt : (s : StmtTree) → placed_stmt_count g l a s ≡ placed_stmt_count g m b s
      plain_stmt (choose test first second) =
          omega (arith, plain_weight l m (choose test first second), plain_body first, plain_body second)
      plain_stmt (repeat index count body) =
          let inner = ap (λ (k : ℕ). turns g count * k) (plain_body body) in
          omega (arith, plain_weight l m (repeat index count body), inner)
      plain_stmt (send port) = each port
      plain_stmt s = plain_weight l m s

      plain_body : (b' : BodyTree) → placed_count g l a b' ≡ placed_count g m b b'
      plain_body done = refl
      plain_body (stmt s rest) = omega (arith, plain_stmt s, plain_body rest)

  plain_sent : (l m : Lengths) (end : Target → ℕ → ℕ) (ws : List Wire) (port : ExprTree) → sent_count g l end ws port ≡ sent_count g m end ws port
  plain_sent l m end [] port = refl
  plain_sent l m end (w ∷ ws) port = ap (λ (k : ℕ). k + tests_count g end (w ∷ ws)) (plain_weight l m (let_local 0 port))

  pub end_plain : (c : Connected) (n : ℕ) (t : Target) (i j : ℕ) → end_count g c n t i ≡ end_count g c n t j
  end_plain c zero Out i j = plain_out (whole_lengths c) i j
  end_plain c zero (Element e) i j = refl
  end_plain c (suc n) Out i j = plain_out (whole_lengths c) i j
  end_plain c (suc n) (Element e) i j =
      let l = own_lengths c (Some i) e in
      let m = own_lengths c (Some j) e in
      let ws = wires_of c.wires e in
      let end = end_count g c n in
      ap (λ (k : ℕ). clearing_count g c + (k + closing_count g (element_at c.elements e).body))
      (plain_body l m (sent_count g l end ws) (sent_count g m end ws) (plain_sent l m end ws) (element_at c.elements e).body)

-- what is told of each level
pub levels_told : (g : Gauge) → g ≢ Bytes → (c : Connected) (count : ℕ) (levels : List (List ℕ)) → AreLevels g c count levels → (n e input : ℕ) → n < count → e < length c.elements
    → told levels n e ≡ capped (end_count g c n (Element e) input)
levels_told g unread c count levels are n e input level there =
    (are.each n level).each e there ∙ ap capped (end_plain g unread c n (Element e) 0 input)
