-- What a repeat that has numbers is made of.
use Rattle.std.proofs.Common.{◌≡◌, ℕ, true, not, ◌&&◌, List, ◌++◌, length, take, map, Option, Some, refl, sym, ap, ◌∙◌}
use Rattle.std.specs.Prelude.{IsSome}
use Rattle.state_store.specs.declared.object.ObjectDecl.{ObjectDecl}
use Rattle.element_lang.specs.declared.tree.Local.{Local}
use Rattle.element_lang.specs.Tree as trees
use Rattle.element_lang.specs.Rules.{is_count, ends_always, any_repeats}
use Rattle.element_lang.specs.Surface as surface
use Rattle.element_text.specs.Scopes.{known_of}
use Rattle.element_text.specs.Resolve.{Known, Env, Made, MadeBody, declared, with_locals, made_stmt, made_body}
use Rattle.element_text.proofs.Optional.{when_is}
use Rattle.element_text.proofs.Links.{test_holds, test_there, chain_is, tested_is}
use Rattle.element_text.proofs.Kept.{Entries}
use Rattle.element_text.proofs.NamesInScope.{Within}
use Rattle.element_text.proofs.LookupNumbers.{cut_scope}

module _ (env : Env) (index : List ℕ) (count : ℕ) (body : surface.SurfaceBody) (there : IsSome (made_stmt env (surface.repeat index count body))) where
  -- the count is one, and the local that counts can be declared
  pub repeat_counted : is_count count ≡ true
  repeat_counted = test_holds (is_count count) _ there

  module _ (inside : Env) (known : declared env index 32 ≡ Some inside) where
    pub repeat_made : (b : MadeBody) → made_body inside body ≡ Some b → made_stmt env (surface.repeat index count body) ≡ Some (record { tree = trees.repeat (length env.locals) count b.tree; env = with_locals env b.locals })
    repeat_made b made =
        let some : Option Made = Some (record { tree = trees.repeat (length env.locals) count b.tree; env = with_locals env b.locals }) in
        let test = not (any_repeats b.tree) && not (ends_always b.tree) in
        when_is (is_count count) _ some repeat_counted (chain_is (declared env index 32) _ inside some known
        (chain_is (made_body inside body) _ b some made (tested_is test some some refl)) (test_there (is_count count) _ there))

-- what is declared behind a body, where the locals that it brought into scope are cut off
pub cut_env : (start : Env) (objects : List ObjectDecl) (locals : List Local) (outer inner cut : Entries) (n : ℕ) → start.scope ≡ map known_of outer → Within start (record { objects = objects; locals = locals; scope = map known_of inner }) → n ≡ length outer → cut ≡ take n inner → ◌≡◌ {A = Env} (record { objects = objects; locals = locals; scope = map known_of cut }) (with_locals start locals)
cut_env start objects locals outer inner cut n same h count is =
    let scope : map known_of cut ≡ start.scope = ap (map known_of) is ∙ cut_scope outer inner n h.more count (h.scope ∙ ap (λ l. l ++ h.more) same) ∙ sym same in
    let P : List ObjectDecl → List Known → Env = λ o k. record { objects = o; locals = locals; scope = k } in
    ap (λ o. P o (map known_of cut)) h.objects ∙ ap (P start.objects) scope
