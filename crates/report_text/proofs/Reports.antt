-- Which texts are reports, and where another goes wrong.
use Rattle.std.proofs.Common.{◌≡◌, ℕ, suc, ◌+◌, ◌^◌, ◌≤◌, ◌<◌, inl, inr, Bool, true, false, cond, ltb, List, [], ◌∷◌, ◌++◌, length, take, drop, map, Option, Some, None, refl, sym, ap, ◌∙◌, subst, arith, append_assoc}
use Rattle.std.specs.Prelude.{codes}
use Rattle.std.specs.List.{AllByRecursion}
use Rattle.std.proofs.lemmas.Bool.{and_parts, cases_lt}
use Rattle.std.proofs.lemmas.List.{append-nil, take-append-drop}
use Rattle.std.proofs.lemmas.Bool.Decides.{nat_tests}
use Rattle.std.proofs.Math.Pow.{pow_mono}
use Rattle.std.proofs.lemmas.Option.{same_Some}
use Rattle.gal_io.specs.Lines.{lines, is_skipped, told_of}
use Rattle.state_store.specs.declared.object.ObjectDecl.{ObjectDecl}
use Rattle.state_store.specs.declared.object.Row.{Row}
use Rattle.state_store.specs.Kept.{have_widths}
use Rattle.run_model.specs.declared.fate.Fate.{Fate}
use Rattle.run_model.specs.declared.run.ObjectRows.{ObjectRows}
use Rattle.run_model.specs.declared.run.Run.{Run}
use Rattle.run_text.specs.Report.{name_in, report_of}
use Rattle.report_text.specs.declared.head.PacketCounts.{PacketCounts}
use Rattle.report_text.specs.declared.stage.Stage.{Stage}
use Rattle.report_text.specs.declared.stage.Stage.TheVariants.{Ended}
use Rattle.report_text.specs.Form.{InForm, IsFate, IsPart, IsRowOf, are_widths}
use Rattle.report_text.specs.Lines.{AreLinesOf, Begins, IsFirstWrong, IsRefused, IsReport}
use Rattle.report_text.specs.declared.error.RunTextError.TheVariants.{Line}
use Rattle.report_text.specs.Parse.{◌>>=◌}
use Rattle.report_text.specs.Machine.{State, at_start, ended, ended_by, line_read, resume, run_of, step, taken}
use Rattle.report_text.proofs.Pieces.{bound}
use Rattle.report_text.proofs.PartLines.{order_told, part_told}
use Rattle.report_text.proofs.RowLines.{is_width, row_told, width_small}
use Rattle.report_text.proofs.Told.{counts_in, drained_text, events_in, fates_told, head_told, name_of, parts_told, report_both, report_told, versions_in}
use Rattle.gal_io.proofs.ToldLines.{IsTold, all_told, told_lines}
use Rattle.report_text.proofs.Plain.{counts_plain, events_plain, fate_plain, order_plain, row_plain, versions_plain, part_plain}
use Rattle.report_text.proofs.Walked.{resumed_both, walked, walked_both}
use Rattle.report_text.proofs.Declared.{AreKnown, IsKnown}
use Rattle.report_text.proofs.Sound.{Goes, Stands, told}
use Rattle.report_text.proofs.Steps.{step_goes}
use Rattle.report_text.proofs.Complete.{all_read, counts_small}
use Rattle.report_text.proofs.Live.{all_live}
use Rattle.lemmas.proofs.Lists.{line_within, lines_passed, take_fewer, take_line, take_lines, each_append, each_weaker}

-- ---- the lines of a report in the form are those of its text

rows_wide : (ws ns : List ℕ) → are_widths ws ≡ true → have_widths ws ns ≡ true → AllByRecursion (λ n. n < 2 ^ 64) ns
rows_wide [] [] wide h = tt
rows_wide (w ∷ ws) (n ∷ ns) wide h =
    let wp = and_parts (is_width w) (are_widths ws) wide in
    let hp = and_parts (ltb n (2 ^ w)) (have_widths ws ns) h in
    let inside : n < 2 ^ w = grind (arith, nat_tests, hp.0) in
    let top : 2 ^ w ≤ 2 ^ 64 = pow_mono (width_small w wp.0) in
    (omega (arith, inside, top), rows_wide ws ns wp.1 hp.1)
rows_wide _ _ wide h = cc

rows_told : (object : ObjectDecl) (rows : List Row) → IsKnown object → AllByRecursion (IsRowOf object) rows → AllByRecursion IsTold (map row_told rows)
rows_told object [] k h = tt
rows_told object (row ∷ rows) k h =
    (row_plain row (rows_wide object.keys row.keys k.keys h.0.0) (rows_wide object.values row.values k.values h.0.1), rows_told object rows k h.1)

parts_plain : (declared : List ObjectDecl) (k : AreKnown declared) (word : List ℕ) (ps : List ObjectRows) → ((o : ObjectDecl) (count : ℕ) → IsKnown o → count < 2 ^ 32 → IsTold (part_told word o.name count)) → AllByRecursion (IsPart declared) ps → AllByRecursion IsTold (parts_told word declared ps)
parts_plain declared k word [] line h = tt
parts_plain declared k word (p ∷ ps) line h =
    let x = h.0 in
    let known = k.each p.object x.object x.is in
    let first : IsTold (part_told word (name_of declared p.object) (length p.rows)) =
    subst (λ o. IsTold (part_told word (name_in o) (length p.rows))) (sym x.is) (line x.object (length p.rows) known x.few) in
    (first, each_append IsTold (map row_told p.rows) (parts_told word declared ps) (rows_told x.object p.rows known x.rows) (parts_plain declared k word ps line h.1))

fates_plain : (n : ℕ) (fs : List Fate) → n + length fs < 2 ^ 32 → AllByRecursion IsFate fs → AllByRecursion IsTold (fates_told n fs)
fates_plain n [] few h = tt
fates_plain n (f ∷ fs) few h = (fate_plain n f (omega (arith, few)) h.0, fates_plain (suc n) fs (omega (arith, few)) h.1)

drained_plain : (d : Bool) → IsTold (drained_text d)
drained_plain true = record { whole = refl; told = refl }
drained_plain false = record { whole = refl; told = refl }

pub form_told : (declared : List ObjectDecl) (k : AreKnown declared) (run : Run) → InForm declared run → AllByRecursion IsTold (report_told declared run)
form_told declared k run h =
    let title : IsTold (codes "report 1") = record { whole = refl; told = refl } in
    let last : IsTold (codes "end") = record { whole = refl; told = refl } in
    let counts = counts_plain (counts_in run) (counts_small declared run h) in
    let events = events_plain (events_in run) (record { events = omega (arith, h.events); idle = omega (arith, h.idle) }) in
    let versions = versions_plain (versions_in run) (record { version = omega (arith, h.version); visible = omega (arith, h.visible) }) in
    let order = order_plain run.order (each_weaker (λ n. n < length run.fates) (λ n. n < 2 ^ 64) (λ n low. omega (arith, low, h.admitted)) run.order h.order) in
    let server = parts_plain declared k (codes "object ") run.objects (λ o count known small. part_plain (codes "object ") o.name count refl (λ rest. refl) known.name small) h.server in
    let switch = parts_plain declared k (codes "switch ") run.switch (λ o count known small. part_plain (codes "switch ") o.name count refl (λ rest. refl) known.name small) h.switch in
    let tables = each_append IsTold (parts_told (codes "object ") declared run.objects) _ server (each_append IsTold (parts_told (codes "switch ") declared run.switch) _ switch (last, tt)) in
    let packets = each_append IsTold (fates_told 0 run.fates) _ (fates_plain 0 run.fates (omega (arith, h.admitted)) h.fates) (order, tables) in
    (title, (counts, (events, (versions, (drained_plain run.drained, packets)))))

pub form_lines : (declared : List ObjectDecl) (k : AreKnown declared) (run : Run) → InForm declared run → lines (report_of declared run) ≡ report_told declared run
form_lines declared k run h = ap lines (sym (report_both declared run)) ∙ told_lines (report_told declared run) (form_told declared k run h)

-- what is printed is a report
pub printed_is : (declared : List ObjectDecl) (k : AreKnown declared) (run : Run) → InForm declared run → IsReport declared (report_of declared run) run
printed_is declared k run h = record {
  form = h;
  told = ap told_of (form_lines declared k run h) ∙ all_told (report_told declared run) (form_told declared k run h) ∙ sym (form_lines declared k run h);
}

-- ---- what was read

start_goes : (declared : List ObjectDecl) → Goes declared [] at_start
start_goes declared = record { stands = record { fates = refl; server = refl; switch = refl; rows = refl }; told = refl }

walked_goes : (declared : List ObjectDecl) (k : AreKnown declared) (ls before : List (List ℕ)) (s t : State) → Goes declared before s → walked declared s ls ≡ Some t → Goes declared (before ++ ls) t
walked_goes declared k [] before s t g h = subst (Goes declared (before ++ [])) (same_Some s t h) (subst (λ l. Goes declared l s) (sym (append-nil before)) g)
walked_goes declared k (l ∷ ls) before s t g h =
    bound (step declared s l) (λ u. walked declared u ls) t h (λ u e f.
    let one : Goes declared (before ++ l ∷ []) u = subst (λ b. Goes declared (b ++ l ∷ []) u) g.told (step_goes declared k s.stage s u l refl g.stands e) in
    subst (λ m. Goes declared m t) (append_assoc before (l ∷ []) ls) (walked_goes declared k ls (before ++ l ∷ []) u t one f))

ended_is : (s : State) (st : Stage) (run : Run) → ended_by s st ≡ Some run → (st ≡ Ended) × (run_of s ≡ run)
ended_is s Ended run h = (refl, same_Some (run_of s) run h)
ended_is s _ run h = cc h

pub record Tells (declared : List ObjectDecl) (ls : List (List ℕ)) (run : Run) : Type 0 where
  pub form : InForm declared run
  pub is : ls ≡ report_told declared run

ended_form : (declared : List ObjectDecl) (s : State) → Stands declared s Ended → InForm declared (run_of s)
ended_form declared s f =
    let o = f.0.head in
    record {
      total = omega (arith, o.counts.total);
      admitted = omega (arith, o.admitted, o.counts.admitted);
      decided = omega (arith, o.counts.decided);
      released = omega (arith, o.counts.released);
      events = omega (arith, o.events.events);
      idle = omega (arith, o.events.idle);
      version = omega (arith, o.versions.version);
      visible = omega (arith, o.versions.visible);
      fates = o.fates;
      ordered = o.decided;
      order = subst (λ n. AllByRecursion (λ m. m < n) s.order) (sym o.admitted) o.order;
      numbers = f.1;
      server = f.0.server;
      shown = f.2;
      switch = f.0.switch;
    }

ended_told : (declared : List ObjectDecl) (s : State) → Stands declared s Ended → told declared s Ended ≡ report_told declared (run_of s)
ended_told declared s f =
    let objects = parts_told (codes "object ") declared s.server in
    let shown = parts_told (codes "switch ") declared s.switch in
    let rest = fates_told 0 s.fates ++ (order_told s.order ∷ (objects ++ (shown ++ (codes "end" ∷ [])))) in
    let c : ℕ → PacketCounts = λ n. record { total = s.counts.total; admitted = n; decided = s.counts.decided; released = s.counts.released } in
    ap (λ l. head_told s.counts s.events s.versions s.drained ++ (fates_told 0 s.fates ++ (order_told s.order ∷ l))) (append_assoc objects shown (codes "end" ∷ []))
    ∙ ap (λ n. head_told (c n) s.events s.versions s.drained ++ rest) (sym f.0.head.admitted)

pub walked_tells : (declared : List ObjectDecl) (k : AreKnown declared) (ls : List (List ℕ)) (s : State) (run : Run) → walked declared at_start ls ≡ Some s → ended s ≡ Some run → Tells declared ls run
walked_tells declared k ls s run w h =
    let g = walked_goes declared k ls [] at_start s (start_goes declared) w in
    let e = ended_is s s.stage run h in
    let stands : Stands declared s Ended = subst (Stands declared s) e.0 g.stands in
    let lines_are : told declared s Ended ≡ ls = ap (told declared s) (sym e.0) ∙ g.told in
    subst (Tells declared ls) e.1 (record { form = ended_form declared s stands; is = sym lines_are ∙ ended_told declared s stands })

resumed_end : (declared : List ObjectDecl) (s : State) (ls : List (List ℕ)) → resume declared s ls ≡ (walked declared s ls >>= ended)
resumed_end declared s ls = ap (resume declared s) (sym (append-nil ls)) ∙ resumed_both declared s ls []

resumed_tells : (declared : List ObjectDecl) (k : AreKnown declared) (ls : List (List ℕ)) (run : Run) → resume declared at_start ls ≡ Some run → Tells declared ls run
resumed_tells declared k ls run h =
    bound (walked declared at_start ls) ended run (sym (resumed_end declared at_start ls) ∙ h) (λ s w e. walked_tells declared k ls s run w e)

-- ---- told lines

pub told_append : (xs ys : List (List ℕ)) → told_of (xs ++ ys) ≡ told_of xs ++ told_of ys
told_append [] ys = refl
told_append (x ∷ xs) ys =
    let rest = told_append xs ys in
    elim (is_skipped x) as (λ b. cond b (told_of (xs ++ ys)) (x ∷ told_of (xs ++ ys)) ≡ cond b (told_of xs) (x ∷ told_of xs) ++ told_of ys) [ true ↦ rest | false ↦ ap (λ l. x ∷ l) rest ]

all_behind : (xs ys : List (List ℕ)) → AllByRecursion IsTold (xs ++ ys) → AllByRecursion IsTold ys
all_behind [] ys h = h
all_behind (x ∷ xs) ys h = all_behind xs ys h.1

-- ---- reports

pub read_is : (declared : List ObjectDecl) (k : AreKnown declared) (text : List ℕ) (s : State) (run : Run) → walked declared at_start (told_of (lines text)) ≡ Some s → ended s ≡ Some run → IsReport declared text run
read_is declared k text s run w e =
    let t = walked_tells declared k (told_of (lines text)) s run w e in
    record { form = t.form; told = t.is ∙ sym (form_lines declared k run t.form) }

lines_read : (declared : List ObjectDecl) (k : AreKnown declared) (ls : List (List ℕ)) (run : Run) → AreLinesOf declared ls run → resume declared at_start (told_of ls) ≡ Some run
lines_read declared k ls run h = ap (resume declared at_start) (h.told ∙ form_lines declared k run h.form) ∙ all_read declared k run h.form

pub read_only : (declared : List ObjectDecl) (k : AreKnown declared) (text : List ℕ) (s : State) (run other : Run) → walked declared at_start (told_of (lines text)) ≡ Some s → ended s ≡ Some run → IsReport declared text other → other ≡ run
read_only declared k text s run other w e h =
    same_Some other run (sym (lines_read declared k (lines text) other h) ∙ resumed_end declared at_start (told_of (lines text)) ∙ ap (λ o. o >>= ended) w ∙ e)

can_begin : (declared : List ObjectDecl) (k : AreKnown declared) (ls : List (List ℕ)) (s : State) → walked declared at_start (told_of ls) ≡ Some s → Begins declared ls
can_begin declared k ls s w =
    let g = walked_goes declared k (told_of ls) [] at_start s (start_goes declared) w in
    let live = all_live declared k s.stage s refl g.stands in
    let whole : resume declared at_start (told_of ls ++ live.more) ≡ Some live.run =
    resumed_both declared at_start (told_of ls) live.more ∙ ap (λ o. o >>= (λ t. resume declared t live.more)) w ∙ live.is in
    let t = resumed_tells declared k (told_of ls ++ live.more) live.run whole in
    let more_told = all_behind (told_of ls) live.more (subst (AllByRecursion IsTold) (sym t.is) (form_told declared k live.run t.form)) in (
      live.more,
      live.run,
      record {
        form = t.form;
        told = told_append ls live.more ∙ ap (λ m. told_of ls ++ m) (all_told live.more more_told) ∙ t.is ∙ sym (form_lines declared k live.run t.form);
      },
    )

refused_line : (declared : List ObjectDecl) (k : AreKnown declared) (n : ℕ) (ls rest : List (List ℕ)) (l : List ℕ) (s : State) → drop n ls ≡ l ∷ rest → is_skipped l ≡ false → walked declared at_start (told_of (take n ls)) ≡ Some s → step declared s l ≡ None
    → Begins declared (take (suc n) ls) → ⊥
refused_line declared k n ls rest l s e told w stops b =
    let more = b.0 in
    let one : told_of (l ∷ more) ≡ l ∷ told_of more = rw told refl in
    let split : told_of (take (suc n) ls ++ more) ≡ told_of (take n ls) ++ (l ∷ told_of more) =
    ap (λ m. told_of (m ++ more)) (take_line n l ls rest e) ∙ ap told_of (append_assoc (take n ls) (l ∷ []) more) ∙ told_append (take n ls) (l ∷ more) ∙ ap (λ m. told_of (take n ls) ++ m) one in
    let nothing : resume declared at_start (told_of (take (suc n) ls ++ more)) ≡ None =
    ap (resume declared at_start) split ∙ resumed_both declared at_start (told_of (take n ls)) (l ∷ told_of more) ∙ ap (λ o. o >>= (λ t. resume declared t (l ∷ told_of more))) w
    ∙ ap (λ o. o >>= (λ t. resume declared t (told_of more))) stops in
    let wrong : Some b.1 ≡ None = sym (lines_read declared k (take (suc n) ls ++ more) b.1 b.2) ∙ nothing in
    cc wrong

pub wrong_line : (declared : List ObjectDecl) (k : AreKnown declared) (n : ℕ) (ls rest : List (List ℕ)) (l : List ℕ) (s : State) → drop n ls ≡ l ∷ rest → is_skipped l ≡ false → walked declared at_start (told_of (take n ls)) ≡ Some s → step declared s l ≡ None
    → IsFirstWrong declared ls n
wrong_line declared k n ls rest l s e told w stops =
    let bad = refused_line declared k n ls rest l s e told w stops in
    let inside = line_within n l ls rest e in
    record {
      within = omega (arith, inside);
      begins = can_begin declared k (take n ls) s w;
      wrong = λ less b. bad b;
      none = λ run h. bad (drop (suc n) ls, run, subst (λ m. AreLinesOf declared m run) (sym (take-append-drop (suc n) ls)) h);
    }

pub ends_early : (declared : List ObjectDecl) (k : AreKnown declared) (ls : List (List ℕ)) (s : State) → walked declared at_start (told_of ls) ≡ Some s → ended s ≡ None → IsFirstWrong declared ls (length ls)
ends_early declared k ls s w stops = record {
  within = omega arith;
  begins = subst (Begins declared) (sym (take_lines ls)) (can_begin declared k ls s w);
  wrong = λ less b. absurd (omega (arith, less));
  none = λ run h.
      let wrong : Some run ≡ None = sym (lines_read declared k ls run h) ∙ resumed_end declared at_start (told_of ls) ∙ ap (λ o. o >>= ended) w ∙ stops in
      absurd (cc wrong);
}

-- ---- one turn of the reader

told_next : (n : ℕ) (ls rest : List (List ℕ)) (l : List ℕ) → drop n ls ≡ l ∷ rest → told_of (take (suc n) ls) ≡ told_of (take n ls) ++ told_of (l ∷ [])
told_next n ls rest l e = ap told_of (take_line n l ls rest e) ∙ told_append (take n ls) (l ∷ [])

line_by : (declared : List ObjectDecl) (b : Bool) (n : ℕ) (ls rest : List (List ℕ)) (l : List ℕ) (s t : State) → is_skipped l ≡ b → drop n ls ≡ l ∷ rest → walked declared at_start (told_of (take n ls)) ≡ Some s → cond b (Some s) (step declared s l) ≡ Some t
    → walked declared at_start (told_of (take (suc n) ls)) ≡ Some t
line_by declared true n ls rest l s t told e w h =
    let none : told_of (l ∷ []) ≡ [] = rw told refl in
    ap (walked declared at_start) (told_next n ls rest l e ∙ ap (λ m. told_of (take n ls) ++ m) none ∙ append-nil (told_of (take n ls))) ∙ w ∙ h
line_by declared false n ls rest l s t told e w h =
    let one : told_of (l ∷ []) ≡ l ∷ [] = rw told refl in
    ap (walked declared at_start) (told_next n ls rest l e ∙ ap (λ m. told_of (take n ls) ++ m) one)
    ∙ walked_both declared at_start (told_of (take n ls)) (l ∷ []) ∙ ap (λ o. o >>= (λ u. walked declared u (l ∷ []))) w ∙ ap (λ o. o >>= (λ u. Some u)) h

pub line_on : (declared : List ObjectDecl) (n : ℕ) (ls rest : List (List ℕ)) (l : List ℕ) (s t : State) → drop n ls ≡ l ∷ rest → walked declared at_start (told_of (take n ls)) ≡ Some s → line_read declared s l ≡ Some t
    → walked declared at_start (told_of (take (n + 1) ls)) ≡ Some t
line_on declared n ls rest l s t e w h =
    let up : n + 1 ≡ suc n = omega arith in
    ap (λ m. walked declared at_start (told_of (take m ls))) up ∙ line_by declared (is_skipped l) n ls rest l s t refl e w h

stop_by : (declared : List ObjectDecl) (k : AreKnown declared) (b : Bool) (n : ℕ) (ls rest : List (List ℕ)) (l : List ℕ) (s : State) → is_skipped l ≡ b → drop n ls ≡ l ∷ rest → walked declared at_start (told_of (take n ls)) ≡ Some s → cond b (Some s) (step declared s l) ≡ None
    → IsFirstWrong declared ls n
stop_by declared k true n ls rest l s told e w h = cc h
stop_by declared k false n ls rest l s told e w h = wrong_line declared k n ls rest l s e told w h

pub line_stop : (declared : List ObjectDecl) (k : AreKnown declared) (n : ℕ) (text : List ℕ) (rest : List (List ℕ)) (l : List ℕ) (s : State) → drop n (lines text) ≡ l ∷ rest → walked declared at_start (told_of (take n (lines text))) ≡ Some s → line_read declared s l ≡ None
    → IsRefused declared text (Line (n + 1))
line_stop declared k n text rest l s e w h =
    let up : n + 1 ≡ suc n = omega arith in
    (n, ap Line up, stop_by declared k (is_skipped l) n (lines text) rest l s refl e w h)

pub whole_walked : (declared : List ObjectDecl) (n : ℕ) (ls : List (List ℕ)) (o : Option State) → n ≤ length ls → drop n ls ≡ [] → walked declared at_start (told_of (take n ls)) ≡ o → walked declared at_start (told_of ls) ≡ o
whole_walked declared n ls o h e w =
    let all = lines_passed n ls h e in
    ap (λ m. walked declared at_start (told_of m)) (sym (ap (λ m. take m ls) all ∙ take_lines ls)) ∙ w

pub text_stop : (declared : List ObjectDecl) (k : AreKnown declared) (n : ℕ) (text : List ℕ) (s : State) → n ≤ length (lines text) → drop n (lines text) ≡ [] → walked declared at_start (told_of (take n (lines text))) ≡ Some s → ended s ≡ None
    → IsRefused declared text (Line (n + 1))
text_stop declared k n text s h e w stops =
    let all = lines_passed n (lines text) h e in
    let up : n + 1 ≡ suc (length (lines text)) = omega (arith, all) in
    (length (lines text), ap Line up, ends_early declared k (lines text) s (whole_walked declared n (lines text) (Some s) h e w) stops)

pub taken_yes : (b : Bool) (now : State) (o : Option State) → taken b now o → b ≡ true → o ≡ Some now
taken_yes true now o h e = h
taken_yes false now o h e = cc e

pub taken_no : (b : Bool) (now : State) (o : Option State) → taken b now o → b ≡ false → o ≡ None
taken_no true now o h e = cc e
taken_no false now o h e = h

-- ---- one line is the first wrong one

begins_sooner : (declared : List ObjectDecl) (j k : ℕ) (ls : List (List ℕ)) → j ≤ k → Begins declared (take k ls) → Begins declared (take j ls)
begins_sooner declared j k ls h b =
    let between = drop j (take k ls) in
    (between ++ b.0, b.1, subst (λ m. AreLinesOf declared m b.1) (ap (λ m. m ++ b.0) (take_fewer j k ls h) ∙ append_assoc (take j ls) between b.0) b.2)

not_later : (declared : List ObjectDecl) (ls : List (List ℕ)) (j k : ℕ) → IsFirstWrong declared ls j → IsFirstWrong declared ls k → j < k → ⊥
not_later declared ls j k f g less = f.wrong (omega (arith, less, g.within)) (begins_sooner declared (suc j) k ls (omega (arith, less)) g.begins)

pub first_wrong_once : (declared : List ObjectDecl) (ls : List (List ℕ)) (j k : ℕ) → IsFirstWrong declared ls j → IsFirstWrong declared ls k → j ≡ k
first_wrong_once declared ls j k f g =
    elim (cases_lt j k) [
      | inl less ↦ absurd (not_later declared ls j k f g less)
      | inr some ↦ elim (cases_lt k j) [
        | inl less ↦ absurd (not_later declared ls k j g f less)
        | inr more ↦ omega (arith, some, more)
      ]
    ]
