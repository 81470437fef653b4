-- How many locals the steps of an element declare and name, told from its statements.
use Rattle.std.proofs.Common.{◌≡◌, ℕ, suc, ◌+◌, Bool, true, false, cond, List, [], ◌∷◌, ◌++◌, length, Option, refl, ap, arith, length-append}
use Rattle.std.specs.List.{filter}
use Rattle.packet_fields.specs.declared.field.Field.{Field}
use Rattle.packet_fields.specs.declared.field.Header.{Header}
use Rattle.packet_fields.specs.declared.field.Header.TheVariants.{Meta}
use Rattle.packet_fields.specs.Table.{row, all_fields}
use Rattle.element_lang.specs.Rules.{ends_always}
use Rattle.element_lang.specs.Tree.{ExprTree, StmtTree, BodyTree}
use Rattle.element_lang.specs.Tree.StmtTree.{look, choose, repeat, send, drop}
use Rattle.element_lang.specs.Tree.BodyTree.{done, stmt}
use Rattle.element_print.specs.Lengths.{Lengths}
use Rattle.element_chain.specs.declared.chain.Wire.{Wire}
use Rattle.element_chain.specs.Chain.{Connected, element_at}
use Rattle.element_chain.specs.Compose.{kept_where, clearing, wires_of, is_set}
use Rattle.chain_compose.specs.declared.gauge.Gauge.TheVariants.{Locals, Uses}
use Rattle.chain_compose.specs.declared.name_steps.Step.{Step}
use Rattle.chain_compose.specs.declared.name_steps.Step.TheVariants.{Name, Declare, Send}
use Rattle.chain_compose.specs.Counts.{used_by_expr, used_in, body_count, placed_stmt_count, placed_count, tests_count, sent_count, closing_count, clearing_count, whole_lengths, own_lengths, element_count}
use Rattle.chain_compose.specs.SendLevels.{has_wires}
use Rattle.chain_compose.specs.NamedFrom.{count_from, named, all_declared_steps, send_steps, stmt_steps, body_steps, own_steps, Spans, tests_span}
use Rattle.chain_compose.proofs.NamedSteps.{count_append}

-- ## locals
-- how many locals steps declare
abbrev pub steps_span : Spans → List Wire → List Step → ℕ
steps_span span ws [] = 0
steps_span span ws (Name x ∷ ss) = steps_span span ws ss
steps_span span ws (Declare ∷ ss) = suc (steps_span span ws ss)
steps_span span ws (Send ∷ ss) = suc (tests_span span ws) + steps_span span ws ss

-- how often steps name a local, where it is told of the end of each wire
abbrev pub steps_uses : Spans → List Wire → List Step → ℕ
steps_uses uses ws [] = 0
steps_uses uses ws (Name x ∷ ss) = suc (steps_uses uses ws ss)
steps_uses uses ws (Declare ∷ ss) = suc (steps_uses uses ws ss)
steps_uses uses ws (Send ∷ ss) = suc (length ws + tests_span uses ws) + steps_uses uses ws ss

module _ (end : Spans) (ws : List Wire) where
  span_append : (xs ys : List Step) → steps_span end ws (xs ++ ys) ≡ steps_span end ws xs + steps_span end ws ys
  span_append [] ys = omega arith
  span_append (Name x ∷ xs) ys = span_append xs ys
  span_append (Declare ∷ xs) ys = omega (arith, span_append xs ys)
  span_append (Send ∷ xs) ys = omega (arith, span_append xs ys)

  span_named : (xs : List ℕ) → steps_span end ws (named xs) ≡ 0
  span_named [] = refl
  span_named (x ∷ xs) = span_named xs

  span_declared : (xs : List ℕ) → steps_span end ws (all_declared_steps xs) ≡ length xs
  span_declared [] = refl
  span_declared (x ∷ xs) = omega (arith, span_declared xs)

  uses_append : (xs ys : List Step) → steps_uses end ws (xs ++ ys) ≡ steps_uses end ws xs + steps_uses end ws ys
  uses_append [] ys = omega arith
  uses_append (Name x ∷ xs) ys = omega (arith, uses_append xs ys)
  uses_append (Declare ∷ xs) ys = omega (arith, uses_append xs ys)
  uses_append (Send ∷ xs) ys = omega (arith, uses_append xs ys)

  uses_named : (xs : List ℕ) → steps_uses end ws (named xs) ≡ length xs
  uses_named [] = refl
  uses_named (x ∷ xs) = omega (arith, uses_named xs)

  uses_declared : (xs : List ℕ) → steps_uses end ws (all_declared_steps xs) ≡ length xs
  uses_declared [] = refl
  uses_declared (x ∷ xs) = omega (arith, uses_declared xs)

locals_of_tests : (end : Spans) (ws : List Wire) → tests_count Locals end ws ≡ tests_span end ws
locals_of_tests end [] = refl
locals_of_tests end (w ∷ ws) = omega (arith, locals_of_tests end ws)

uses_of_tests : (end : Spans) (ws : List Wire) → tests_count Uses end ws ≡ length ws + tests_span end ws
uses_of_tests end [] = refl
uses_of_tests end (w ∷ ws) = omega (arith, uses_of_tests end ws)

locals_of_sent : (l : Lengths) (end : Spans) (ws : List Wire) (port : ExprTree) → sent_count Locals l end ws port ≡ steps_span end ws (send_steps (has_wires ws) port)
locals_of_sent l end [] port = refl
locals_of_sent l end (w ∷ ws) port =
    simp (span_append, span_named) (omega (arith, locals_of_tests end (w ∷ ws)))

uses_of_sent : (l : Lengths) (end : Spans) (ws : List Wire) (port : ExprTree) → sent_count Uses l end ws port ≡ steps_uses end ws (send_steps (has_wires ws) port)
uses_of_sent l end [] port = refl
uses_of_sent l end (w ∷ ws) port =
    simp (uses_append, uses_named) (omega (arith, uses_of_tests end (w ∷ ws)))

module _ (l : Lengths) (end : Spans) (ws : List Wire) where
  abbrev locals_sent : ExprTree → ℕ
  locals_sent = sent_count Locals l end ws

  abbrev uses_sent : ExprTree → ℕ
  uses_sent = sent_count Uses l end ws

  abbrev wired : Bool
  wired = has_wires ws

  mutual
    locals_of_stmt : (s : StmtTree) → placed_stmt_count Locals l locals_sent s ≡ steps_span end ws (stmt_steps wired s)
    locals_of_stmt (look found into object keys) = simp (span_append, span_named) (omega (arith, span_declared end ws into))
    locals_of_stmt (choose test first second) = simp (span_append, span_named) (omega (arith, locals_of_body first, locals_of_body second))
    locals_of_stmt (repeat index count body) = omega (arith, locals_of_body body)
    locals_of_stmt (send port) = locals_of_sent l end ws port
    locals_of_stmt drop = refl
    locals_of_stmt _ = simp (span_append, span_named) (omega arith)

    pub locals_of_body : (b : BodyTree) → placed_count Locals l locals_sent b ≡ steps_span end ws (body_steps wired b)
    locals_of_body done = refl
    locals_of_body (stmt s b) = omega (arith, span_append end ws (stmt_steps wired s) (body_steps wired b), locals_of_stmt s, locals_of_body b)

  mutual
    uses_of_stmt : (s : StmtTree) → placed_stmt_count Uses l uses_sent s ≡ steps_uses end ws (stmt_steps wired s)
    uses_of_stmt (look found into object keys) = simp (uses_append, uses_named, length-append) (omega (arith, uses_declared end ws into))
    uses_of_stmt (choose test first second) = simp (uses_append, uses_named) (omega (arith, uses_of_body first, uses_of_body second))
    uses_of_stmt (repeat index count body) = omega (arith, uses_of_body body)
    uses_of_stmt (send port) = uses_of_sent l end ws port
    uses_of_stmt drop = refl
    uses_of_stmt _ = simp (uses_append, uses_named, length-append) (omega arith)

    pub uses_of_body : (b : BodyTree) → placed_count Uses l uses_sent b ≡ steps_uses end ws (body_steps wired b)
    uses_of_body done = refl
    uses_of_body (stmt s b) = omega (arith, uses_append end ws (stmt_steps wired s) (body_steps wired b), uses_of_stmt s, uses_of_body b)

-- an element
pub locals_of_element : (c : Connected) (end : Spans) (port : Option ℕ) (e : ℕ) → element_count Locals c end port e ≡ steps_span end (wires_of c.wires e) (own_steps c e)
locals_of_element c end port e = locals_of_body (own_lengths c port e) end (wires_of c.wires e) (element_at c.elements e).body

pub uses_of_element : (c : Connected) (end : Spans) (port : Option ℕ) (e : ℕ) → element_count Uses c end port e ≡ steps_uses end (wires_of c.wires e) (own_steps c e)
uses_of_element c end port e = uses_of_body (own_lengths c port e) end (wires_of c.wires e) (element_at c.elements e).body

-- ## between elements
kept_uses : (h : Header) (f : Field) (width : ℕ) → used_by_expr (kept_where h f width) ≡ []
kept_uses Meta f width = refl
kept_uses _ f width = refl

pub clearing_from : (least : ℕ) (fs : List Field) → count_from least (used_in (clearing fs)) ≡ 0
clearing_from least [] = refl
clearing_from least (f ∷ fs) =
    let here = used_by_expr (kept_where (row f).header f (row f).width) in
    omega (arith, count_append least here (used_in (clearing fs)), ap (count_from least) (kept_uses (row f).header f (row f).width), clearing_from least fs)

clearing_uses : (l : Lengths) (fs : List Field) → body_count Uses l (clearing fs) ≡ 0
clearing_uses l [] = refl
clearing_uses l (f ∷ fs) = omega (arith, ap (length {A = ℕ}) (kept_uses (row f).header f (row f).width), clearing_uses l fs)

pub no_clearing_uses : (c : Connected) → clearing_count Uses c ≡ 0
no_clearing_uses c = clearing_uses (whole_lengths c) (filter (is_set c.elements) all_fields)

none_either : (b : Bool) → ◌≡◌ {A = ℕ} (cond b 0 0) 0
none_either true = refl
none_either false = refl

pub no_closing_uses : (b : BodyTree) → closing_count Uses b ≡ 0
no_closing_uses b = none_either (ends_always b)
