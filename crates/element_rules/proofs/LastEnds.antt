-- Behind which statements a run never goes on, read from the Rust values.
use Rattle.std.proofs.Common.{Vec, Global, ◌≡◌, ℕ, suc, ◌-◌, ◌≤◌, Bool, true, false, ◌&&◌, List, [], ◌∷◌, length, get_or, refl, sym, ap, ◌∙◌, arith}
use Rattle.element_lang.specs.Broken as broken
use Rattle.element_grammar.specs.declared.surface.At.{At}
use Rattle.element_grammar.specs.declared.surface.SurfaceExpr.{SurfaceExpr}
use Rattle.element_grammar.specs.declared.surface.SurfaceStmt.{SurfaceStmt}
use Rattle.element_grammar.specs.declared.surface.SurfaceStmt.TheVariants.{If}
use Rattle.element_grammar.specs.Surface.{surface_stmt, surface_body}
use Rattle.element_rules.proofs.Levels.{if_level}

-- whether statements end is whether the last one does
ends_behind : (text : List ℕ) (s : At SurfaceStmt) (ss : List (At SurfaceStmt)) (d : At SurfaceStmt) → broken.ends_always (surface_body text (s ∷ ss))
    ≡ broken.always_ends (surface_stmt text (get_or (s ∷ ss) (length ss) d).item)
ends_behind text s [] d = refl
ends_behind text s (t ∷ ss) d = ends_behind text t ss d

pub ends_last : (text : List ℕ) (ss : List (At SurfaceStmt)) (last : At SurfaceStmt) → 1 ≤ length ss → last ≡ get_or ss (length ss - 1) last
    → broken.ends_always (surface_body text ss) ≡ broken.always_ends (surface_stmt text last.item)
ends_last text [] last some is = absurd (omega arith)
ends_last text (s ∷ ss) last some is =
    let there : suc (length ss) - 1 ≡ length ss = omega arith in
    ends_behind text s ss last ∙ ap (λ n. broken.always_ends (surface_stmt text (get_or (s ∷ ss) n last).item)) (sym there)
    ∙ ap (λ (x : At SurfaceStmt). broken.always_ends (surface_stmt text x.item)) (sym is)

-- a choice ends where both of its blocks do
module _ (text : List ℕ) (cond : SurfaceExpr) (first second : Vec (At SurfaceStmt) Global) {source : SurfaceStmt} {yeses : List (At SurfaceStmt)}
    (is : source ≡ If cond first second) (firsts : yeses ≡ first.items) where
  if_ends : broken.always_ends (surface_stmt text source) ≡ (broken.ends_always (surface_body text yeses) && broken.ends_always
      (surface_body text second.items))
  if_ends =
      ap (λ x. broken.always_ends (surface_stmt text x)) is ∙ ap broken.always_ends (if_level text cond first second)
      ∙ ap (λ l. broken.ends_always (surface_body text l) && broken.ends_always (surface_body text second.items)) (sym firsts)

  -- the first one does
  pub second_ends : {noes : List (At SurfaceStmt)} (a b : Bool) → noes ≡ second.items → a ≡ broken.ends_always (surface_body text yeses) → a ≡ true
      → b ≡ broken.ends_always (surface_body text noes) → b ≡ broken.always_ends (surface_stmt text source)
  second_ends a b seconds first_is ends second_is =
      second_is ∙ ap (λ l. broken.ends_always (surface_body text l)) seconds
      ∙ sym (if_ends ∙ ap (λ x. x && broken.ends_always (surface_body text second.items)) (sym first_is ∙ ends))

  -- the first one doesn't
  pub first_goes_on : (a : Bool) → a ≡ broken.ends_always (surface_body text yeses) → a ≡ false → a ≡ broken.always_ends (surface_stmt text source)
  first_goes_on a first_is goes_on =
      goes_on ∙ sym (if_ends ∙ ap (λ x. x && broken.ends_always (surface_body text second.items)) (sym first_is ∙ goes_on))
