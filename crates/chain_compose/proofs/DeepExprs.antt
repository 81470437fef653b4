-- Brackets of expressions and declarations stand as deep under other names.
use Rattle.std.proofs.Common.{◌≡◌, ℕ, suc, Bool, List, [], ◌∷◌, ◌++◌, max, Option, refl, ap, ◌∙◌, arith}
use Rattle.gal_bits.specs.declared.op.Op.{Op}
use Rattle.gal_bits.specs.declared.op.Op.TheVariants as ops
use Rattle.state_store.specs.declared.object.Kind.{Kind}
use Rattle.state_store.specs.declared.object.Kind.TheVariants.{Table}
use Rattle.state_store.specs.declared.object.ObjectDecl.{ObjectDecl}
use Rattle.element_lang.specs.Tree.{ExprTree, Exprs, Tree}
use Rattle.element_lang.specs.Tree.ExprTree.{field, byte, shift, apply}
use Rattle.element_lang.specs.Tree.Exprs.{no_expr, expr}
use Rattle.element_print.specs.declared.place.Place.{Place}
use Rattle.element_print.specs.declared.place.Place.TheVariants.{Whole, Operand, Turned}
use Rattle.element_print.specs.Printed.{has_infix, needs_brackets}
use Rattle.element_print.specs.Lengths.{nameless}
use Rattle.element_print.specs.Depths.{within_if, expr_depth, parts_depth, depth_as, decls_depth}
use Rattle.element_chain.specs.Compose.{renamed, all_renamed, prefixed, named_objects, objects_from}
use Rattle.chain_compose.specs.Depths.{all_decls_depth}
use Rattle.chain_compose.proofs.Counted.{same_infix, same_brackets}
use Rattle.chain_compose.proofs.SeenFields.{as_field}

-- ## expressions
-- the same operands, however deep
same_parts : (op : Op) (width : ℕ) (args args' : Exprs) → ((place : Place) → parts_depth place args ≡ parts_depth place args')
    → expr_depth (apply op width args) ≡ expr_depth (apply op width args')
same_parts ops.Not width args args' same = same Turned
same_parts ops.Cast width args args' same = omega (arith, same Whole)
same_parts ops.Select width args args' same = omega (arith, same Whole)
same_parts ops.Adjust width args args' same = omega (arith, same Whole)
same_parts op width args args' same = same Operand

module _ (port : Option ℕ) (names : List ℕ) where
  mutual
    pub depth_kept : (e : ExprTree) → expr_depth (renamed port names e) ≡ expr_depth e
    depth_kept (field f) = as_field expr_depth port f (λ input. refl)
    depth_kept (byte index) = omega (arith, depth_kept index)
    depth_kept (shift op by arg) =
        ap (λ (b : Bool). within_if b (expr_depth (renamed port names arg))) (same_infix port names arg)
        ∙ ap (within_if (has_infix (nameless arg))) (depth_kept arg)
    depth_kept (apply op width args) =
        same_parts op width (all_renamed port names args) args (λ place. parts_kept place args)
    depth_kept _ = refl

    pub parts_kept : (place : Place) (es : Exprs) → parts_depth place (all_renamed port names es) ≡ parts_depth place es
    parts_kept place no_expr = refl
    parts_kept place (expr e es) =
        ap (λ (b : Bool). max (within_if b (expr_depth (renamed port names e))) (parts_depth place (all_renamed port names es))) (same_brackets port names place e)
        ∙ ap (λ (d : ℕ). max (within_if (needs_brackets place (nameless e)) d) (parts_depth place (all_renamed port names es))) (depth_kept e)
        ∙ ap (max (within_if (needs_brackets place (nameless e)) (expr_depth e))) (parts_kept place es)

-- ## declarations
kind_depth : (k : Kind) (o : ObjectDecl) (name : List ℕ) → depth_as k (record o { name = name }) ≡ depth_as k o
kind_depth Table o name = refl
kind_depth _ o name = refl

named_depth : (e : ℕ) (os : List ObjectDecl) → decls_depth (named_objects e os) ≡ decls_depth os
named_depth e [] = refl
named_depth e (o ∷ os) =
    ap (λ (d : ℕ). max d (decls_depth (named_objects e os))) (kind_depth o.kind o (prefixed e o.name))
    ∙ ap (max (depth_as o.kind o)) (named_depth e os)

joined_depth : (os ps : List ObjectDecl) → decls_depth (os ++ ps) ≡ max (decls_depth os) (decls_depth ps)
joined_depth [] ps = omega arith
joined_depth (o ∷ os) ps = omega (arith, joined_depth os ps)

pub whole_decls_depth : (e : ℕ) (ms : List Tree) → decls_depth (objects_from e ms) ≡ all_decls_depth ms
whole_decls_depth e [] = refl
whole_decls_depth e (m ∷ ms) =
    omega (arith, joined_depth (named_objects e m.objects) (objects_from (suc e) ms), named_depth e m.objects, whole_decls_depth (suc e) ms)
