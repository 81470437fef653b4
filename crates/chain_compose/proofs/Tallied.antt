-- What is told of one level after the other is what is counted there.
use Rattle.std.proofs.Common.{◌≡◌, ℕ, zero, suc, ◌+◌, ◌*◌, ◌≤◌, List, [], ◌∷◌, length, refl, sym, ap, ◌∙◌, arith, Option, Some, None}
use Rattle.std.proofs.Math.Nat.{add-mul, mul-add, mul_assoc}
use Rattle.std.specs.List.{All}
use Rattle.std.proofs.lemmas.List.Elements.{All-head, All-tail, All-weaker}
use Rattle.packet_fields.specs.declared.field.Field.TheVariants.{MetaPort}
use Rattle.element_lang.specs.Tree.{ExprTree, StmtTree, BodyTree}
use Rattle.element_lang.specs.Tree.ExprTree.{lit}
use Rattle.element_lang.specs.Tree.StmtTree.{choose, repeat, send}
use Rattle.element_lang.specs.Tree.BodyTree.{done, stmt}
use Rattle.element_print.specs.Lengths.{Lengths, capped, literal_length, field_length}
use Rattle.element_chain.specs.declared.chain.Wire.{Wire}
use Rattle.element_chain.specs.declared.chain.Target.{Target}
use Rattle.element_chain.specs.declared.chain.Target.TheVariants.{Element, Out}
use Rattle.element_chain.specs.Chain.{Connected, element_at}
use Rattle.element_chain.specs.Compose.{wires_of, composed}
use Rattle.element_chain.specs.Wiring.{IsWithin, AreWithin}
use Rattle.chain_compose.specs.declared.gauge.Gauge.{Gauge}
use Rattle.chain_compose.specs.declared.gauge.Gauge.TheVariants.{Statements}
use Rattle.chain_compose.specs.declared.figures.Figures.{Figures}
use Rattle.chain_compose.specs.declared.figures.Ending.{Ending}
use Rattle.chain_compose.specs.Counts.{weight, turns, placed_stmt_count, placed_count, body_count, whole_lengths, own_lengths, port_length, test_weight, tests_count, sent_count, element_count, end_count}
use Rattle.chain_compose.specs.Tallies.{sent_of, sent_in, first_sent, bare_count, after_count, has_wire, lengths_at, AreFigures, out_weight, told_end, AreEndings, IsNext}
use Rattle.chain_compose.proofs.Caps.{capped_again, add_capped, mul_capped}
use Rattle.chain_compose.proofs.Counted.{whole_counted}
use Rattle.chain_compose.proofs.RoutesAt.{own_within}

-- ## An element

-- what stands for a `send` counts more
module _ (g : Gauge) (l : Lengths) (all first : ExprTree → ℕ) (after : ℕ) (each : (port : ExprTree) → all port ≡ first port + after) where
  mutual
    stmt_more : (s : StmtTree) → placed_stmt_count g l all s ≡ placed_stmt_count g l first s + sent_of g s * after
    stmt_more (choose test yes_part no_part) =
        omega (arith, body_more yes_part, body_more no_part, add-mul (sent_in g yes_part) (sent_in g no_part) after)
    stmt_more (repeat index count body) =
        let head = weight g l (repeat index count body) in
        let n = turns g count in
        let inner : n * placed_count g l all body ≡ n * placed_count g l first body + n * sent_in g body * after =
        ap (λ (k : ℕ). n * k) (body_more body) ∙ mul-add n (placed_count g l first body) (sent_in g body * after)
        ∙ ap (λ (k : ℕ). n * placed_count g l first body + k) (sym (mul_assoc n (sent_in g body) after)) in
        omega (arith, inner)
    stmt_more (send port) = omega (arith, each port)
    stmt_more _ = omega arith

    body_more : (b : BodyTree) → placed_count g l all b ≡ placed_count g l first b + sent_in g b * after
    body_more done = omega arith
    body_more (stmt s b) = omega (arith, stmt_more s, body_more b, add-mul (sent_of g s) (sent_in g b) after)

sent_more : (g : Gauge) (l : Lengths) (end : Target → ℕ → ℕ) (ws : List Wire) (port : ExprTree) → sent_count g l end ws port ≡ first_sent g l (has_wire ws) port + after_count g end ws
sent_more g l end [] port = omega arith
sent_more g l end (w ∷ ws) port = refl

-- the statements of an element, and what stands at the ends of its wires
element_more : (g : Gauge) (c : Connected) (end : Target → ℕ → ℕ) (port : Option ℕ) (e : ℕ)
    → element_count g c end port e ≡ bare_count g (lengths_at c e (port_length port)) (has_wire (wires_of c.wires e)) (element_at c.elements e).body
    + sent_in g (element_at c.elements e).body * after_count g end (wires_of c.wires e)
element_more g c end port e =
    let l = own_lengths c port e in
    let ws = wires_of c.wires e in
    body_more g l (sent_count g l end ws) (first_sent g l (has_wire ws)) (after_count g end ws) (sent_more g l end ws) (element_at c.elements e).body

-- ## Ends of wires

abbrev Agree : (Target → ℕ → ℕ) → (Target → ℕ → ℕ) → Wire → Type 0
Agree f h w = capped (f w.to w.input) ≡ capped (h w.to w.input)

tests_agree : (g : Gauge) (f h : Target → ℕ → ℕ) (ws : List Wire) → All (Agree f h) ws → capped (tests_count g f ws) ≡ capped (tests_count g h ws)
tests_agree g f h [] same = refl
tests_agree g f h (w ∷ ws) same =
    add_capped (test_weight g w.output) (f w.to w.input + tests_count g f ws) (test_weight g w.output) (h w.to w.input + tests_count g h ws) refl
    (add_capped (f w.to w.input) (tests_count g f ws) (h w.to w.input) (tests_count g h ws) (All-head (Agree f h) w ws same) (tests_agree g f h ws (All-tail (Agree f h) w ws same)))

after_agree : (g : Gauge) (f h : Target → ℕ → ℕ) (ws : List Wire) → All (Agree f h) ws → capped (after_count g f ws) ≡ capped (after_count g h ws)
after_agree g f h [] same = refl
after_agree g f h (w ∷ ws) same = tests_agree g f h (w ∷ ws) same

out_same : (g : Gauge) (l : Lengths) (input : ℕ) → out_weight g input ≡ weight g l (send (lit input 8))
out_same Statements l input = refl
out_same _ l input = refl

end_out : (g : Gauge) (c : Connected) (n input : ℕ) → out_weight g input ≡ end_count g c n Out input
end_out g c zero input = out_same g (whole_lengths c) input
end_out g c (suc n) input = out_same g (whole_lengths c) input

told_target : (g : Gauge) (c : Connected) (n : ℕ) (es : List Ending) → AreEndings g c n es → (t : Target) (input : ℕ) → IsWithin (length c.elements) t → capped (told_end g es t input) ≡ capped (end_count g c n t input)
told_target g c n es are Out input within = ap capped (end_out g c n input)
told_target g c n es are (Element e) input within = are.each e input within

told_after : (g : Gauge) (c : Connected) (n : ℕ) (es : List Ending) → AreWithin (length c.elements) c.wires → AreEndings g c n es → (e : ℕ)
    → capped (after_count g (told_end g es) (wires_of c.wires e)) ≡ capped (after_count g (end_count g c n) (wires_of c.wires e))
told_after g c n es within are e =
    let count = length c.elements in
    after_agree g (told_end g es) (end_count g c n) (wires_of c.wires e)
    (All-weaker (λ (w : Wire). IsWithin count w.to) (Agree (told_end g es) (end_count g c n)) (λ w there. told_target g c n es are w.to w.input there)
    (wires_of c.wires e)
    (own_within c.wires count e within))

-- ## An element, and all behind it

some_bytes : (input : ℕ) → 1 ≤ literal_length input 8
some_bytes input = omega arith

-- the own numbers of an element, and what is told of the ends of its wires
module _ (g : Gauge) (c : Connected) (n : ℕ) (es : List Ending) (within : AreWithin (length c.elements) c.wires) (are : AreEndings g c n es) (e : ℕ) (f : Figures) (figures : AreFigures g c e f) where
  abbrev behind_told : ℕ
  behind_told = f.sent * after_count g (told_end g es) (wires_of c.wires e)

  abbrev behind : ℕ
  behind = sent_in g (element_at c.elements e).body * after_count g (end_count g c n) (wires_of c.wires e)

  behind_agrees : capped behind_told ≡ capped behind
  behind_agrees =
      let sent = sent_in g (element_at c.elements e).body in
      mul_capped f.sent (after_count g (told_end g es) (wires_of c.wires e)) sent (after_count g (end_count g c n) (wires_of c.wires e))
      (ap capped figures.sent ∙ capped_again sent) (told_after g c n es within are e)

  pub element_told : (port : Option ℕ) → 1 ≤ port_length port → capped ((f.own + f.reads * port_length port) + behind_told) ≡ capped (element_count g c (end_count g c n) port e)
  element_told port some =
      let bare = bare_count g (lengths_at c e (port_length port)) (has_wire (wires_of c.wires e)) (element_at c.elements e).body in
      add_capped (f.own + f.reads * port_length port) behind_told bare behind (figures.own (port_length port) some) behind_agrees
      ∙ ap capped (sym (element_more g c (end_count g c n) port e))

  -- through one element more
  pub next_told : (made : Ending) → IsNext g c es e f made → (input : ℕ) → capped (made.fixed + made.reads * literal_length input 8) ≡ capped (end_count g c (suc n) (Element e) input)
  next_told made is input =
      omega (arith, is.fixed, ap (λ (k : ℕ). k * literal_length input 8) is.reads, element_told (Some input) (some_bytes input), figures.closing)

-- the whole
pub whole_told : (g : Gauge) (c : Connected) (es : List Ending) → AreWithin (length c.elements) c.wires → AreEndings g c (length c.elements) es → (f : Figures) → AreFigures g c 0 f
    → capped ((f.own + f.reads * field_length MetaPort) + f.sent * after_count g (told_end g es) (wires_of c.wires 0)) ≡ capped (body_count g (whole_lengths c) (composed c).body)
whole_told g c es within are f figures =
    element_told g c (length c.elements) es within are 0 f figures None (omega arith)
    ∙ ap capped (sym (whole_counted g c))
