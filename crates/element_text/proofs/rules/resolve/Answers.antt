use Rattle.std.proofs.Common.{◌≡◌, [], true, map, Some, is_some, sym, ap, ◌∙◌}
use Rattle.std.specs.Prelude.{IsSome}
use Rattle.std.specs.List.{list_all}
use Rattle.element_lang.specs.Surface.{Surface, object_of}
use Rattle.element_lang.specs.View.{tree, body_tree}
use Rattle.element_grammar.specs.Surface.{surface_object, surface_body, surface_tree}
use Rattle.element_text.specs.Scopes.{env_of}
use Rattle.element_text.specs.Reads.{IsUnbroken}
use Rattle.element_text.specs.Resolve.{made_body, is_good_decl, are_good_decls, decls_of, resolved}
use Rattle.element_text.proofs.Links.{first_link, test_holds, test_there}
use Rattle.element_text.proofs.Agree.{unbroken}
use Rattle.element_text.proofs.Declarations.{one_by_one}
use Rattle.element_text.proofs.OnlyMiddlebox.{first_env, first_is, resolved_made, only_one}
use Rattle.element_text.proofs.Sound.{resolved_named, resolved_good, resolved_names}
use Rattle.element_text.proofs.rules.resolve.Goals as goal
use Rattle.element_text.proofs.rules.resolve.Goals.{After-drop-scope-5}
use Rattle.lemmas.proofs.Tests.{some_is}

-- a tree that breaks no rule has a middlebox
there : (s : Surface) → IsUnbroken s → IsSome (resolved s)
there s k = let h = unbroken k.tokens s k.spells k.none in some_is (resolved s) h.0 h.1

decls_good : (s : Surface) → IsUnbroken s → are_good_decls (decls_of s.objects) ≡ true
decls_good s k = test_holds (are_good_decls (decls_of s.objects)) _ (there s k)

body_there : (s : Surface) → IsUnbroken s → IsSome (made_body (first_env (map object_of (decls_of s.objects))) s.body)
body_there s k = first_link (made_body (first_env (map object_of (decls_of s.objects))) s.body) _ (test_there (are_good_decls (decls_of s.objects)) _ (there s k))

pub objects-requires : goal.objects-requires
objects-requires c =
    let text = c.args.text.now in
    let s = surface_tree text c.args.source.now in
    ap (λ l. list_all is_good_decl (decls_of (map (surface_object text) l))) c.deref.ensures.value ∙ one_by_one [] (decls_of s.objects) (decls_good s c.requires)

pub block-requires : goal.block-requires
block-requires c =
    let text = c.args.text.now in
    let s = surface_tree text c.args.source.now in
    let objects = c.in_ok-objects.ensures ∙ ap (λ l. map object_of (decls_of (map (surface_object text) l))) c.deref.ensures.value in
    let first = first_is objects c.new.ensures c.new-2.ensures.empty in
    let scope = env_of (record { objects = c.in_ok-objects.field-0; locals = c.new.result; known = c.new-2.result }) in
    ap (λ l. is_some (made_body scope (surface_body text l))) c.deref-2.ensures.value ∙ ap (λ e. is_some (made_body e s.body)) first ∙ body_there s c.requires

-- the resolution of the whole source
whole : (c : After-drop-scope-5) → resolved (surface_tree c.args.text.now c.args.source.now) ≡ Some (tree (record { objects = c.block.new.scope.objects; locals = c.block.new.scope.locals; body = c.in_ok-body.body }))
whole c =
    let text = c.args.text.now in
    let s = surface_tree text c.args.source.now in
    let scope = env_of (record { objects = c.in_ok-objects.field-0; locals = c.new.result; known = c.new-2.result }) in
    let objects = c.in_ok-objects.ensures ∙ ap (λ l. map object_of (decls_of (map (surface_object text) l))) c.deref.ensures.value in
    let first = first_is objects c.new.ensures c.new-2.ensures.empty in
    let made = ap (λ l. made_body scope (surface_body text l)) (sym c.deref-2.ensures.value) ∙ c.in_ok-body.ensures.body in
    resolved_made s.objects s.body scope (env_of c.block.new.scope) (body_tree c.in_ok-body.body.items) (decls_good s c.requires) first made c.in_ok-body.ensures.env

pub returns-clause-named : goal.returns-clause-named
returns-clause-named c = resolved_named (surface_tree c.args.text.now c.args.source.now) _ (whole c)

pub returns-clause-good : goal.returns-clause-good
returns-clause-good c = resolved_good (surface_tree c.args.text.now c.args.source.now) _ (whole c)

pub returns-clause-names : goal.returns-clause-names
returns-clause-names c = resolved_names (surface_tree c.args.text.now c.args.source.now) _ (whole c)

pub returns-clause-only : goal.returns-clause-only
returns-clause-only c = only_one (surface_tree c.args.text.now c.args.source.now) _ (whole c)
