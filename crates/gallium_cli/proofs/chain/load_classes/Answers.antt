use Rattle.std.proofs.Common.{◌≡◌, ◌+◌, ◌<◌, List, [], ◌∷◌, ◌++◌, IsTrue, length, take, map, subst, ap, ◌∙◌, length-append, arith}
use Rattle.std.specs.Prelude.{if◌then◌else◌}
use Rattle.element_lang.specs.View.{tree}
use Rattle.element_lang.specs.declared.tree.Middlebox.{Middlebox}
use Rattle.element_lang.specs.Accepted.{HasNames}
use Rattle.element_lang.specs.Rules.{is_good}
use Rattle.gallium_cli.specs.declared.status.Status.TheVariants as statuses
use Rattle.gallium_cli.specs.Chains.{class_files, AreClasses, IsNextRefused, MayReadNext, ReadsNext}
use Rattle.gallium_cli.proofs.Written.{goes_further}
use Rattle.gallium_cli.proofs.Classes.{next_class_refused, few_next, classes_next, all_next, reads_more}
use Rattle.gallium_cli.proofs.chain.load_classes.Goals as goal

pub returns-in-Err-clause-err : goal.returns-in-Err-clause-err
returns-in-Err-clause-err g c =
    let es = c.args.elements.now in
    let f = g.F.Files.seen c.loop-alloc.files in
    let h = g.F.Files.seen c.next_class.new.files in
    next_class_refused c.in-Err.refusal es (length c.loop-alloc.classes.items) (map tree c.loop-alloc.classes.items)
    (g.F.Files.seen c.args.files.now) f h (omega (arith, c.loop-alloc-test.true, c.len.ensures)) c.loop-alloc.invariant.are c.loop-alloc.invariant.goes
    (subst (λ (ks : List Middlebox). IsNextRefused c.in-Err.refusal (class_files (take (length ks) es))
    (class_files (take (length ks + 1) es)) f h) c.deref.ensures.value c.in-Err.ensures.err)

pub returns-in-Err-clause-few_reads : goal.returns-in-Err-clause-few_reads
returns-in-Err-clause-few_reads g c =
    let es = c.args.elements.now in
    let f = g.F.Files.seen c.loop-alloc.files in
    let h = g.F.Files.seen c.next_class.new.files in
    few_next es (length c.loop-alloc.classes.items) _ f.reads h.reads c.requires c.loop-alloc.invariant.reads
    (subst (λ (ks : List Middlebox). MayReadNext (class_files (take (length ks) es)) (class_files (take (length ks + 1) es))
    f.reads h.reads) c.deref.ensures.value c.next_class.ensures.few_reads)

pub returns-then-is_err-clause-few_reads : goal.returns-then-is_err-clause-few_reads
returns-then-is_err-clause-few_reads g c =
    let es = c.args.elements.now in
    let f = g.F.Files.seen c.loop-alloc.files in
    let h = g.F.Files.seen c.next_class.new.files in
    few_next es (length c.loop-alloc.classes.items) _ f.reads h.reads c.requires c.loop-alloc.invariant.reads
    (subst (λ (ks : List Middlebox). MayReadNext (class_files (take (length ks) es)) (class_files (take (length ks + 1) es))
    f.reads h.reads) c.deref.ensures.value c.next_class.ensures.few_reads)

pub loop-alloc-preserved : goal.loop-alloc-preserved
loop-alloc-preserved g c =
    let es = c.args.elements.now in
    let known = c.loop-alloc.classes.items in
    let now = c.push.new.self.items in
    let m = c.in-Ok.middlebox in
    let first = g.F.Files.seen c.args.files.now in
    let before = g.F.Files.seen c.loop-alloc.files in
    let after = g.F.Files.seen c.next_class.new.files in
    let invariant = c.loop-alloc.invariant in
    let found = c.in-Ok.ensures in
    let lt : length known < length es = omega (arith, c.loop-alloc-test.true, c.len.ensures) in
    let is : now ≡ known ++ m ∷ [] =
    c.push.ensures.items ∙ ap (λ b. if b then known ++ m ∷ [] else known) c.if-is_err.ensures.negation in
    let one = ap length is ∙ length-append known (m ∷ []) in
    record {
      within = omega arith;
      are = classes_next first before es known now m is invariant.goes
          (subst (λ (ks : List Middlebox). AreClasses before.told (take (length ks + 1) es) (map tree ks ++ tree m ∷ []))
          c.deref.ensures.value found.ok);
      good = all_next (λ k. IsTrue (is_good (tree k))) known now m is invariant.good found.good;
      names = all_next (λ k. HasNames (tree k)) known now m is invariant.names found.names;
      goes = goes_further statuses.Done first before after invariant.goes found.stays;
      reads = reads_more es known now m first.reads before.reads after.reads is invariant.reads
          (subst (λ (ks : List Middlebox). ReadsNext (class_files (take (length ks) es))
          (class_files (take (length ks + 1) es)) before.reads after.reads) c.deref.ensures.value found.read);
    }
