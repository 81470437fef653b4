use Rattle.std.proofs.Common.{◌≡◌, length, true, false, Bool, sym, subst, ◌∙◌}
use Rattle.std.proofs.lemmas.List.{length-map}
use Rattle.flat_ir.specs.Program.{program_of, step_of}
use Rattle.partition.specs.Choice.{IsChosen, IsRefused}
use Rattle.partition.specs.declared.trying.Tried.{Tried}
use Rattle.partition.specs.declared.trying.Tried.TheVariants.{Kept, Exceeding}
use Rattle.partition.specs.Tried.{IsTried}
use Rattle.partition.proofs.Chosen.{sound, kept_not_exceeded, exceeded_not_kept}
use Rattle.partition.proofs.choosing.partition.Goals as goal

pub returns-then-shrink-clause-chosen : goal.returns-then-shrink-clause-chosen
returns-then-shrink-clause-chosen c =
    subst (λ (b : Bool). IsChosen (program_of c.args.f.now) c.args.limits.now b c.in_ok-split.split) (sym c.if-shrink.true) c.in_ok-split.ensures

pub returns-then-shrink-clause-legal : goal.returns-then-shrink-clause-legal
returns-then-shrink-clause-legal c =
    (sound (program_of c.args.f.now) c.args.limits.now true c.in_ok-split.split c.requires.bounded.formed c.requires.in_range c.in_ok-split.ensures).legal

pub returns-then-shrink-clause-keeps : goal.returns-then-shrink-clause-keeps
returns-then-shrink-clause-keeps c =
    (sound (program_of c.args.f.now) c.args.limits.now true c.in_ok-split.split c.requires.bounded.formed c.requires.in_range c.in_ok-split.ensures).keeps

pub returns-then-shrink-clause-few_stages : goal.returns-then-shrink-clause-few_stages
returns-then-shrink-clause-few_stages c =
    (sound (program_of c.args.f.now) c.args.limits.now true c.in_ok-split.split c.requires.bounded.formed c.requires.in_range c.in_ok-split.ensures).low

pub returns-in-Kept : goal.returns-in-Kept
returns-in-Kept c =
    let f = program_of c.args.f.now in
    let l = c.args.limits.now in
    let split = c.in-Kept.split in
    let formed = c.requires.bounded.formed in
    let count : c.in_ok-front.front.count ≡ length f.code = c.in_ok-front.ensures.count ∙ c.len.ensures ∙ sym (length-map c.args.f.now.code step_of) in
    let tried : IsTried f l (length f.code) true (Kept split) =
    subst (λ n. IsTried f l n true (Kept split)) count (subst (λ (t : Tried). IsTried f l c.in_ok-front.front.count true t) c.in-Kept.is c.in_ok-split-2.ensures) in
    let is = sound f l false split formed c.requires.in_range tried.kept in
    record {
      chosen = subst (λ (b : Bool). IsChosen f l b split) (sym c.if-shrink.false) tried.kept;
      refused = tt;
      legal = is.legal;
      keeps = is.keeps;
      few_stages = is.low;
      not_refused = λ other chosen. tt;
      not_chosen = λ over refused. kept_not_exceeded f l (length f.code) true formed split over tried (subst (λ (b : Bool). IsRefused f l b over) c.if-shrink.false refused);
    }

pub returns : goal.returns
returns c =
    let f = program_of c.args.f.now in
    let l = c.args.limits.now in
    let over = c.in-Exceeding.over in
    let count : c.in_ok-front.front.count ≡ length f.code = c.in_ok-front.ensures.count ∙ c.len.ensures ∙ sym (length-map c.args.f.now.code step_of) in
    let tried : IsTried f l (length f.code) true (Exceeding over) =
    subst (λ n. IsTried f l n true (Exceeding over)) count (subst (λ (t : Tried). IsTried f l c.in_ok-front.front.count true t) c.in-Exceeding.is c.in_ok-split-2.ensures) in
    record {
      chosen = tt;
      refused = subst (λ (b : Bool). IsRefused f l b over) (sym c.if-shrink.false) tried.exceeded;
      legal = tt;
      keeps = tt;
      few_stages = tt;
      not_refused = λ split chosen. absurd (exceeded_not_kept f l (length f.code) true c.requires.bounded.formed split over tried
          (subst (λ (b : Bool). IsChosen f l b split) c.if-shrink.false chosen));
      not_chosen = λ other refused. tt;
    }
