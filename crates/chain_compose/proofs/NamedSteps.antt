-- What stands in the whole names locals as often as the steps of its elements do.
use Rattle.std.proofs.Common.{◌≡◌, ℕ, suc, ◌+◌, Bool, List, [], ◌∷◌, ◌++◌, length, map, slice_index, Option, refl, sym, ap, ◌∙◌, arith}
use Rattle.std.proofs.lemmas.List.{map-append, length_push}
use Rattle.element_lang.specs.Tree.{ExprTree, Exprs, StmtTree, BodyTree}
use Rattle.element_lang.specs.Tree.ExprTree.{field, byte, shift, apply}
use Rattle.element_lang.specs.Tree.Exprs.{no_expr, expr}
use Rattle.element_lang.specs.Tree.StmtTree.{let_local, assign, set_field, look, put, del, choose, repeat, send, drop}
use Rattle.element_lang.specs.Tree.BodyTree.{done, stmt}
use Rattle.element_chain.specs.declared.chain.Wire.{Wire}
use Rattle.element_chain.specs.declared.chain.Target.{Target}
use Rattle.element_chain.specs.Compose.{followed, Numbering, Spot, Sends, Ends, renamed, all_renamed, declared, all_declared, numbers, stmt_placed, body_placed, tests, sent_by}
use Rattle.chain_compose.specs.declared.name_steps.Step.{Step}
use Rattle.chain_compose.specs.declared.name_steps.Step.TheVariants.{Declare, Send}
use Rattle.chain_compose.specs.Counts.{used_by_expr, used_by_exprs, used_by, used_in}
use Rattle.chain_compose.specs.SendLevels.{has_wires}
use Rattle.chain_compose.proofs.SeenFields.{as_field}
use Rattle.chain_compose.specs.NamedFrom.{is_from, count_from, named, all_declared_steps, send_steps, stmt_steps, body_steps, Spans, Namings, tests_span, tests_from, Naming, stepped, all_stepped}

-- ## numbers
pub count_append : (least : ℕ) (xs ys : List ℕ) → count_from least (xs ++ ys) ≡ count_from least xs + count_from least ys
count_append least [] ys = omega arith
count_append least (x ∷ xs) ys = omega (arith, count_append least xs ys)

pub used_followed : (least : ℕ) (a b : BodyTree) → count_from least (used_in (followed a b)) ≡ count_from least (used_in a) + count_from least (used_in b)
used_followed least done b = omega arith
used_followed least (stmt s a) b =
    omega (arith, count_append least (used_by s) (used_in (followed a b)), used_followed least a b, count_append least (used_by s) (used_in a))

-- ## names
module _ (port : Option ℕ) (names : List ℕ) where
  mutual
    renamed_uses : (e : ExprTree) → used_by_expr (renamed port names e) ≡ map (slice_index names) (used_by_expr e)
    renamed_uses (field f) = as_field used_by_expr port f (λ input. refl)
    renamed_uses (byte index) = renamed_uses index
    renamed_uses (shift op by arg) = renamed_uses arg
    renamed_uses (apply op width args) = all_renamed_uses args
    renamed_uses _ = refl

    all_renamed_uses : (es : Exprs) → used_by_exprs (all_renamed port names es) ≡ map (slice_index names) (used_by_exprs es)
    all_renamed_uses no_expr = refl
    all_renamed_uses (expr e es) =
        ap (λ (xs : List ℕ). xs ++ used_by_exprs (all_renamed port names es)) (renamed_uses e)
        ∙ ap (λ (ys : List ℕ). map (slice_index names) (used_by_expr e) ++ ys) (all_renamed_uses es)
        ∙ sym (map-append (slice_index names) (used_by_expr e) (used_by_exprs es))

-- ## steps
-- how far locals of the whole are numbered, with a count
abbrev pub at : Numbering → ℕ → Naming
at n k = record { names = n.names; next = length n.widths; count = k }

module _ (least : ℕ) (span : Spans) (from : Namings) (wires : List Wire) where
  abbrev run : List Step → Naming → Naming
  run = all_stepped least span from wires

  pub run_append : (xs ys : List Step) (n : Naming) → run (xs ++ ys) n ≡ run ys (run xs n)
  run_append [] ys n = refl
  run_append (x ∷ xs) ys n = run_append xs ys (stepped least span from wires x n)

  run_named : (xs : List ℕ) (n : Numbering) (k : ℕ) → run (named xs) (at n k) ≡ at n (k + count_from least (map (slice_index n.names) xs))
  run_named [] n k = ap (at n) (omega arith)
  run_named (x ∷ xs) n k = run_named xs n (k + is_from least (slice_index n.names x)) ∙ ap (at n) (omega arith)

  run_expr : (port : Option ℕ) (e : ExprTree) (n : Numbering) (k : ℕ) → run (named (used_by_expr e)) (at n k) ≡ at n (k + count_from least (used_by_expr (renamed port n.names e)))
  run_expr port e n k = run_named (used_by_expr e) n k ∙ ap (λ (xs : List ℕ). at n (k + count_from least xs)) (sym (renamed_uses port n.names e))

  run_exprs : (port : Option ℕ) (es : Exprs) (n : Numbering) (k : ℕ) → run (named (used_by_exprs es)) (at n k) ≡ at n (k + count_from least (used_by_exprs (all_renamed port n.names es)))
  run_exprs port es n k = run_named (used_by_exprs es) n k ∙ ap (λ (xs : List ℕ). at n (k + count_from least xs)) (sym (all_renamed_uses port n.names es))

  run_declare : (spot : Spot) (x : ℕ) (n : Numbering) (k : ℕ) → stepped least span from wires Declare (at n k) ≡ at (declared spot x n) (k + is_from least (length n.widths))
  run_declare spot x n k =
      let wider : suc (length n.widths) ≡ length (n.widths ++ slice_index spot.widths x ∷ []) = omega (arith, length_push n.widths (slice_index spot.widths x)) in
      ap (λ (m : ℕ). let to : Naming = record { names = n.names ++ length n.widths ∷ []; next = m; count = k + is_from least (length n.widths) } in to) wider

  run_declares : (spot : Spot) (xs : List ℕ) (n : Numbering) (k : ℕ) → run (all_declared_steps xs) (at n k) ≡ at (all_declared spot xs n) (k + count_from least (numbers (length n.widths) xs))
  run_declares spot [] n k = ap (at n) (omega arith)
  run_declares spot (x ∷ xs) n k =
      let more = declared spot x n in
      let wider : length more.widths ≡ suc (length n.widths) = omega (arith, length_push n.widths (slice_index spot.widths x)) in
      ap (run (all_declared_steps xs)) (run_declare spot x n k)
      ∙ run_declares spot xs more (k + is_from least (length n.widths))
      ∙ ap (λ (i : ℕ). at (all_declared spot xs more) (k + is_from least (length n.widths) + count_from least (numbers i xs))) wider
      ∙ ap (at (all_declared spot xs more)) (omega arith)

  module _ (spot : Spot) (sent : Sends) (wired : Bool)
      (each : (port : ExprTree) (n : Numbering) (k : ℕ) → run (send_steps wired port) (at n k)
      ≡ (let written = sent (renamed spot.port n.names port) n.widths in at (record { names = n.names; widths = written.widths }) (k + count_from least (used_in written.body)))) where
    mutual
      stmt_run : (s : StmtTree) (n : Numbering) (k : ℕ) → run (stmt_steps wired s) (at n k)
          ≡ at (stmt_placed spot sent s n).numbering (k + count_from least (used_in (stmt_placed spot sent s n).body))
      stmt_run (let_local x value) n k =
          let uses = used_by_expr (renamed spot.port n.names value) in
          run_append (named (used_by_expr value)) (Declare ∷ []) (at n k)
          ∙ ap (run (Declare ∷ [])) (run_expr spot.port value n k)
          ∙ run_declare spot x n (k + count_from least uses)
          ∙ ap (at (declared spot x n)) (omega (arith, count_append least uses []))
      stmt_run (assign x value) n k =
          let uses = used_by_expr (renamed spot.port n.names value) in
          run_expr spot.port value n (k + is_from least (slice_index n.names x)) ∙ ap (at n) (omega (arith, count_append least uses []))
      stmt_run (set_field f value) n k =
          let uses = used_by_expr (renamed spot.port n.names value) in
          run_expr spot.port value n k ∙ ap (at n) (omega (arith, count_append least uses []))
      stmt_run (look found into object keys) n k =
          let uses = used_by_exprs (all_renamed spot.port n.names keys) in
          let many = found ∷ into in
          run_append (named (used_by_exprs keys)) (all_declared_steps many) (at n k)
          ∙ ap (run (all_declared_steps many)) (run_exprs spot.port keys n k)
          ∙ run_declares spot many n (k + count_from least uses)
          ∙ ap (at (all_declared spot many n)) (omega (arith, count_append least (numbers (suc (length n.widths)) into ++ uses) [], count_append least (numbers (suc (length n.widths)) into) uses))
      stmt_run (put ok object keys values) n k =
          let first = used_by_exprs (all_renamed spot.port n.names keys) in
          let second = used_by_exprs (all_renamed spot.port n.names values) in
          run_append (named (used_by_exprs keys)) (named (used_by_exprs values) ++ Declare ∷ []) (at n k)
          ∙ ap (run (named (used_by_exprs values) ++ Declare ∷ [])) (run_exprs spot.port keys n k)
          ∙ run_append (named (used_by_exprs values)) (Declare ∷ []) (at n (k + count_from least first))
          ∙ ap (run (Declare ∷ [])) (run_exprs spot.port values n (k + count_from least first))
          ∙ run_declare spot ok n (k + count_from least first + count_from least second)
          ∙ ap (at (declared spot ok n)) (omega (arith, count_append least (first ++ second) [], count_append least first second))
      stmt_run (del was object keys) n k =
          let uses = used_by_exprs (all_renamed spot.port n.names keys) in
          run_append (named (used_by_exprs keys)) (Declare ∷ []) (at n k)
          ∙ ap (run (Declare ∷ [])) (run_exprs spot.port keys n k)
          ∙ run_declare spot was n (k + count_from least uses)
          ∙ ap (at (declared spot was n)) (omega (arith, count_append least uses []))
      stmt_run (choose test first second) n k =
          let uses = used_by_expr (renamed spot.port n.names test) in
          let yes_part = body_placed spot sent first n in
          let no_part = body_placed spot sent second yes_part.numbering in
          let a = used_in yes_part.body in
          let b = used_in no_part.body in
          run_append (named (used_by_expr test)) (body_steps wired first ++ body_steps wired second) (at n k)
          ∙ ap (run (body_steps wired first ++ body_steps wired second)) (run_expr spot.port test n k)
          ∙ run_append (body_steps wired first) (body_steps wired second) (at n (k + count_from least uses))
          ∙ ap (run (body_steps wired second)) (body_run first n (k + count_from least uses))
          ∙ body_run second yes_part.numbering (k + count_from least uses + count_from least a)
          ∙ ap (at no_part.numbering) (omega (arith, count_append least (uses ++ (a ++ b)) [], count_append least uses (a ++ b), count_append least a b))
      stmt_run (repeat index count body) n k =
          let turn = body_placed spot sent body (declared spot index n) in
          ap (run (body_steps wired body)) (run_declare spot index n k)
          ∙ body_run body (declared spot index n) (k + is_from least (length n.widths))
          ∙ ap (at turn.numbering) (omega (arith, count_append least (used_in turn.body) []))
      stmt_run (send port) n k = each port n k
      stmt_run drop n k = ap (at n) (omega arith)

      pub body_run : (b : BodyTree) (n : Numbering) (k : ℕ) → run (body_steps wired b) (at n k)
          ≡ at (body_placed spot sent b n).numbering (k + count_from least (used_in (body_placed spot sent b n).body))
      body_run done n k = ap (at n) (omega arith)
      body_run (stmt s b) n k =
          let first = stmt_placed spot sent s n in
          let rest = body_placed spot sent b first.numbering in
          run_append (stmt_steps wired s) (body_steps wired b) (at n k)
          ∙ ap (run (body_steps wired b)) (stmt_run s n k)
          ∙ body_run b first.numbering (k + count_from least (used_in first.body))
          ∙ ap (at rest.numbering) (omega (arith, used_followed least first.body rest.body))

-- ## what stands for a `send`
-- it is told how many locals are declared at the end of a wire, and how often one from the least number on is named
pub record AreEndsTold (least : ℕ) (end : Ends) (span : Spans) (from : Namings) : Type 0 where
  pub wide : (t : Target) (input : ℕ) (widths : List ℕ) → length (end t input widths).widths ≡ length widths + span t input
  pub often : (t : Target) (input : ℕ) (widths : List ℕ) → count_from least (used_in (end t input widths).body) ≡ from t input (length widths)

module _ (least : ℕ) (end : Ends) (span : Spans) (from : Namings) (told : AreEndsTold least end span from) where
  tests_wide : (v : ℕ) (ws : List Wire) (widths : List ℕ) → length (tests end v ws widths).widths ≡ length widths + tests_span span ws
  tests_wide v [] widths = omega arith
  tests_wide v (w ∷ ws) widths = omega (arith, told.wide w.to w.input widths, tests_wide v ws (end w.to w.input widths).widths)

  tests_often : (v : ℕ) (ws : List Wire) (widths : List ℕ) → count_from least (used_in (tests end v ws widths).body) ≡ tests_from least span from v ws (length widths)
  tests_often v [] widths = refl
  tests_often v (w ∷ ws) widths =
      let first = end w.to w.input widths in
      let rest = tests end v ws first.widths in
      let a = used_in first.body in
      let b = used_in rest.body in
      let then : count_from least b ≡ tests_from least span from v ws (length widths + span w.to w.input) =
      tests_often v ws first.widths ∙ ap (tests_from least span from v ws) (told.wide w.to w.input widths) in
      omega (arith, count_append least (a ++ b) [], count_append least a b, told.often w.to w.input widths, then)

  pub sent_run : (ws : List Wire) (arrival : Option ℕ) (port : ExprTree) (n : Numbering) (k : ℕ)
      → all_stepped least span from ws (send_steps (has_wires ws) port) (at n k)
      ≡ (let written = sent_by end ws (renamed arrival n.names port) n.widths in at (record { names = n.names; widths = written.widths }) (k + count_from least (used_in written.body)))
  sent_run [] arrival port n k = ap (at n) (omega arith)
  sent_run (w ∷ ws) arrival port n k =
      let all = w ∷ ws in
      let v = length n.widths in
      let uses = used_by_expr (renamed arrival n.names port) in
      let tested = tests end v all (n.widths ++ 8 ∷ []) in
      let wider : length (n.widths ++ 8 ∷ []) ≡ suc v = omega (arith, length_push n.widths 8) in
      let next : suc v + tests_span span all ≡ length tested.widths = omega (arith, tests_wide v all (n.widths ++ 8 ∷ []), wider) in
      let often : count_from least (used_in tested.body) ≡ tests_from least span from v all (suc v) =
      tests_often v all (n.widths ++ 8 ∷ []) ∙ ap (tests_from least span from v all) wider in
      let made : ℕ → ℕ → Naming = λ m j. record { names = n.names; next = m; count = j } in
      run_append least span from all (named (used_by_expr port)) (Send ∷ []) (at n k)
      ∙ ap (all_stepped least span from all (Send ∷ [])) (run_expr least span from all arrival port n k)
      ∙ ap (λ (m : ℕ). made m (k + count_from least uses + (is_from least v + tests_from least span from v all (suc v)))) next
      ∙ ap (made (length tested.widths)) (omega (arith, often, count_append least uses (used_in tested.body)))
