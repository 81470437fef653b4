use Rattle.std.proofs.Common.{◌≡◌, ◌∙◌, false, refl, ap, arith, length, subst, replicate}
use Rattle.flat_ir.specs.Program.{program_of}
use Rattle.dependence.specs.Posted.{IsPostFrom}
use Rattle.dependence.proofs.PlacedCode.{as_many}
use Rattle.dependence.proofs.PostSets.{post_from_end, post_found}
use Rattle.dependence.proofs.backward.post_closure_beside_guards.Goals as goal

pub loop-i-init : goal.loop-i-init
loop-i-init c =
    let n = as_many c.args.f.now c.args.f.now.code refl in
    let at : c.len-i.result ≡ length (program_of c.args.f.now).code = c.len-i.ensures ∙ n in
    let unset : c.in_ok-post.post ≡ replicate (length (program_of c.args.f.now).code) false = c.in_ok-post.ensures ∙ ap (λ m. replicate m false) (c.len.ensures ∙ n) in
    record {
      inside = let m = c.len-i.ensures in omega arith;
      from = rw (at, unset) (post_from_end (program_of c.args.f.now) c.args.carried.now);
    }

pub returns : goal.returns
returns c =
    let z : c.loop-i.i ≡ 0 = omega (arith, c.loop-i-test.false) in
    post_found (program_of c.args.f.now) c.args.carried.now c.loop-i.post (subst (λ i. IsPostFrom (program_of c.args.f.now) c.args.carried.now i c.loop-i.post) z c.loop-i.invariant.from)
