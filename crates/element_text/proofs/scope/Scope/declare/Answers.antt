use Rattle.std.proofs.Common.{◌≡◌, ◌∷◌, [], ◌++◌, ◌&&◌, List, ℕ, Some, not, is_none, map, length, sym, ap, ◌∙◌}
use Rattle.std.specs.List.{list_any}
use Rattle.std.specs.Str.{bytes_eq}
use Rattle.std.proofs.lemmas.Bool.{and_parts}
use Rattle.state_store.specs.declared.object.ObjectDecl.{ObjectDecl}
use Rattle.element_lang.specs.declared.tree.Local.{Local}
use Rattle.element_lang.specs.Rules.{is_width}
use Rattle.element_tokens.specs.Tokens.{span_text}
use Rattle.element_text.specs.declared.scope.KnownLocal.{KnownLocal}
use Rattle.element_text.specs.Resolve.{Known, Env, is_free, local_in, with_local}
use Rattle.element_text.specs.Scopes.{known_of, env_of}
use Rattle.element_text.proofs.Links.{test_holds, tested_is}
use Rattle.element_text.proofs.Kept.{known_last}
use Rattle.element_text.proofs.scope.Scope.declare.Goals as goal

pub returns-clause-declared : goal.returns-clause-declared
returns-clause-declared c =
    let env = env_of c.args.self.now in
    let word = span_text c.args.text.now c.args.name in
    let l : Local = record { name = word; width = c.args.width } in
    let test = is_free env word && is_width c.args.width in
    let free = and_parts (is_free env word) (is_width c.args.width) (test_holds test (Some (with_local env l)) c.requires) in
    let none = and_parts (not (list_any (bytes_eq word) (map (λ (o : ObjectDecl). o.name) env.objects))) (is_none (local_in env.scope word)) free.0 in
    let key = c.in_ok-to_vec.field-0 in
    let same : key.items ≡ word = c.in_ok-to_vec.ensures.items_if_clones_equal (λ x y e. e) ∙ c.word_at-word.ensures in
    let local : KnownLocal = record { number = c.in_ok-number.number; width = c.args.width } in
    let kept = known_last c.args.self.now.known.entries key local word same none.1 c.in_ok-insert.ensures.entries in
    let number : c.in_ok-number.number ≡ length env.locals = c.in_ok-number.ensures ∙ c.len.ensures in
    let name = c.in_ok-bytes.ensures ∙ c.word_at-word.ensures in
    let scope = kept ∙ ap (λ (n : ℕ). env.scope ++ record { number = n; decl = l } ∷ []) number in
    let locals = c.in_ok-push.ensures.ok ∙ ap (λ (w : List ℕ). env.locals ++ record { name = w; width = c.args.width } ∷ []) name in
    let P : List Local → List Known → Env = λ ls ks. record { objects = env.objects; locals = ls; scope = ks } in
    let made : P c.push.new.self (map known_of c.insert.new.self.entries) ≡ with_local env l =
    ap (λ ls. P ls (map known_of c.insert.new.self.entries)) locals ∙ ap (P (env.locals ++ l ∷ [])) scope in
    tested_is test _ _ (ap Some (sym made)) c.requires
