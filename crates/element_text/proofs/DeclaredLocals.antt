-- How locals are declared from front to back.
use Rattle.std.proofs.Common.{◌≡◌, ℕ, suc, ◌+◌, ◌<◌, List, [], ◌∷◌, ◌++◌, length, drop, get_or, map, is_some, true, refl, sym, ap, ◌∙◌, arith}
use Rattle.std.specs.Prelude.{IsSome}
use Rattle.std.proofs.lemmas.List.{at_drop_more, length-map}
use Rattle.std.proofs.lemmas.Bool.{and_parts, false≢true}
use Rattle.element_lang.specs.Rules.{is_width}
use Rattle.lexer.specs.declared.token.Span.{Span}
use Rattle.element_tokens.specs.Tokens.{span_text}
use Rattle.element_text.specs.Resolve.{◌>>=◌, Env, is_free, declared, all_declared, numbers_from}
use Rattle.element_text.proofs.Links.{first_link, next_link, test_holds}
use Rattle.lemmas.proofs.Tests.{value_of_some}

-- as many names as widths
declared_even : (ws : List (List ℕ)) (vs : List ℕ) (env : Env) → IsSome (all_declared env ws vs) → length ws ≡ length vs
declared_even [] [] env e = refl
declared_even [] (v ∷ vs) env e = absurd (false≢true e)
declared_even (w ∷ ws) [] env e = absurd (false≢true e)
declared_even (w ∷ ws) (v ∷ vs) env e =
    let next = value_of_some (declared env w v) (first_link (declared env w v) _ e) in
    ap suc (declared_even ws vs next.0 (next_link (declared env w v) _ next.0 next.1 e))

-- The locals that were declared and those that are left are all.
pub record Declaring (text : List ℕ) (start env : Env) (numbers : List ℕ) (names all : List Span) (widths all_widths : List ℕ) : Type 0 where
  pub told : all_declared env (map (span_text text) names) widths ≡ all_declared start (map (span_text text) all) all_widths
  pub counted : numbers ++ numbers_from (length env.locals) (map (span_text text) names) ≡ numbers_from (length start.locals) (map (span_text text) all)

-- what is left, one place on
split_both : (text : List ℕ) (env : Env) (all : List Span) (widths : List ℕ) (at : ℕ) (d : Span) → at < length all → at < length widths → all_declared env (map (span_text text) (drop at all)) (drop at widths) ≡ (declared env (span_text text (get_or all at d)) (get_or widths at 0) >>= (λ next. all_declared next (map (span_text text) (drop (at + 1) all)) (drop (at + 1) widths)))
split_both text env all widths at d within width_within =
    at_drop_more (λ l. all_declared env (map (span_text text) l) (drop at widths)) all at d within
    ∙ at_drop_more (λ l. all_declared env (span_text text (get_or all at d) ∷ map (span_text text) (drop (at + 1) all)) l) widths at 0 width_within

module _ {text : List ℕ} {start env : Env} {numbers : List ℕ} {all : List Span} {widths : List ℕ} (at : ℕ) (d : Span) (within : at < length all)
    (h : Declaring text start env numbers (drop at all) all (drop at widths) widths) (there : IsSome (all_declared start (map (span_text text) all) widths)) where
  -- there is a width for each name
  pub width_within : at < length widths
  width_within =
      let even : length (map (span_text text) all) ≡ length widths = declared_even (map (span_text text) all) widths start there in
      omega (arith, length-map all (span_text text), even, within)

  -- the next name can be declared, with a width
  pub declaring_there : IsSome (declared env (span_text text (get_or all at d)) (get_or widths at 0))
  declaring_there =
      first_link (declared env (span_text text (get_or all at d)) (get_or widths at 0)) _
      (ap is_some (sym (split_both text env all widths at d within width_within) ∙ h.told) ∙ there)

  pub declaring_wide : is_width (get_or widths at 0) ≡ true
  declaring_wide = (and_parts (is_free env (span_text text (get_or all at d))) _ (test_holds _ _ declaring_there)).1
