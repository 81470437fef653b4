-- The lines of a printed report.
use Rattle.std.proofs.Common.{◌≡◌, ℕ, suc, Bool, true, false, List, [], ◌∷◌, ◌++◌, length, map, refl, sym, ap, ◌∙◌, append_assoc}
use Rattle.std.specs.Prelude.{codes, slice_get}
use Rattle.std.specs.Fmt.{decimal}
use Rattle.gal_io.specs.Lines.{line_end, lined}
use Rattle.packet_fields.specs.declared.verdict.Verdict.TheVariants.{Drop}
use Rattle.state_store.specs.declared.object.ObjectDecl.{ObjectDecl}
use Rattle.state_store.specs.declared.object.Row.{Row}
use Rattle.run_model.specs.declared.fate.Fate.{Fate}
use Rattle.run_model.specs.declared.fate.Fate.TheVariants.{Pass, Slow, Fast}
use Rattle.run_model.specs.declared.run.ObjectRows.{ObjectRows}
use Rattle.run_model.specs.declared.run.Run.{Run}
use Rattle.run_text.specs.Report.{drained_line, fate_line, fate_lines, fate_text, name_in, part_lines, report_of, row_lines}
use Rattle.report_text.specs.declared.head.PacketCounts.{PacketCounts}
use Rattle.report_text.specs.declared.head.EventCounts.{EventCounts}
use Rattle.report_text.specs.declared.head.Versions.{Versions}
use Rattle.report_text.proofs.HeadLines.{counts_text, events_text, versions_text}
use Rattle.report_text.proofs.FateLines.{fate_told, path_with}
use Rattle.report_text.proofs.PartLines.{order_told, part_told}
use Rattle.report_text.proofs.RowLines.{row_told}

abbrev pub drained_text : Bool → List ℕ
drained_text true = codes "drained yes"
drained_text false = codes "drained no"

abbrev pub fates_told : ℕ → List Fate → List (List ℕ)
fates_told n [] = []
fates_told n (f ∷ fs) = fate_told n f ∷ fates_told (suc n) fs

abbrev pub name_of : List ObjectDecl → ℕ → List ℕ
name_of declared n = name_in (slice_get declared n)

abbrev pub parts_told : List ℕ → List ObjectDecl → List ObjectRows → List (List ℕ)
parts_told word declared [] = []
parts_told word declared (p ∷ ps) = part_told word (name_of declared p.object) (length p.rows) ∷ (map row_told p.rows ++ parts_told word declared ps)

abbrev pub head_told : PacketCounts → EventCounts → Versions → Bool → List (List ℕ)
head_told c e v d = codes "report 1" ∷ (counts_text c ∷ (events_text e ∷ (versions_text v ∷ (drained_text d ∷ []))))

abbrev pub counts_in : Run → PacketCounts
counts_in run = record { total = run.total; admitted = length run.fates; decided = run.decided; released = run.released }

abbrev pub events_in : Run → EventCounts
events_in run = record { events = run.events; idle = run.idle }

abbrev pub versions_in : Run → Versions
versions_in run = record { version = run.version; visible = run.visible }

-- the lines of a report
abbrev pub report_told : List ObjectDecl → Run → List (List ℕ)
report_told declared run =
    head_told (counts_in run) (events_in run) (versions_in run) run.drained
    ++ (fates_told 0 run.fates ++ (order_told run.order ∷ (parts_told (codes "object ") declared run.objects
    ++ (parts_told (codes "switch ") declared run.switch ++ (codes "end" ∷ [])))))

-- ---- the printed text is these lines, each with its end

lined_both : (xs ys : List (List ℕ)) → lined (xs ++ ys) ≡ lined xs ++ lined ys
lined_both [] ys = refl
lined_both (x ∷ xs) ys = ap (λ l. x ++ (10 ∷ l)) (lined_both xs ys) ∙ sym (append_assoc x (10 ∷ lined xs) (lined ys))

path_line : (f : Fate) (rest : List ℕ) → path_with f ++ (10 ∷ rest) ≡ codes " " ++ ((fate_text f ++ line_end) ++ rest)
path_line (Pass a) rest = simp append_assoc refl
path_line (Slow a d v r Drop) rest = simp append_assoc refl
path_line (Fast a d v r Drop) rest = simp append_assoc refl
path_line _ rest = simp append_assoc refl

fate_both : (n : ℕ) (f : Fate) (rest : List ℕ) → fate_told n f ++ (10 ∷ rest) ≡ fate_line n f ++ rest
fate_both n f rest = simp append_assoc (ap (λ l. codes "packet " ++ (decimal n ++ l)) (path_line f rest ∙ simp append_assoc refl))

fates_both : (n : ℕ) (fs : List Fate) → lined (fates_told n fs) ≡ fate_lines n fs
fates_both n [] = refl
fates_both n (f ∷ fs) = ap (λ l. fate_told n f ++ (10 ∷ l)) (fates_both (suc n) fs) ∙ fate_both n f (fate_lines (suc n) fs)

rows_both : (rows : List Row) → lined (map row_told rows) ≡ row_lines rows
rows_both [] = refl
rows_both (row ∷ rows) = ap (λ l. row_told row ++ (10 ∷ l)) (rows_both rows) ∙ simp append_assoc refl

parts_both : (word said : List ℕ) (declared : List ObjectDecl) (ps : List ObjectRows) → ((x : List ℕ) → said ++ x ≡ word ++ (codes " " ++ x)) → lined (parts_told said declared ps) ≡ part_lines word declared ps
parts_both word said declared [] h = refl
parts_both word said declared (p ∷ ps) h =
    simp (lined_both (map row_told p.rows) (parts_told said declared ps), rows_both p.rows, parts_both word said declared ps h, h, append_assoc) refl

drained_both : (d : Bool) → drained_line d ≡ drained_text d ++ (10 ∷ [])
drained_both true = refl
drained_both false = refl

pub report_both : (declared : List ObjectDecl) (run : Run) → lined (report_told declared run) ≡ report_of declared run
report_both declared run =
    simp (
      lined_both,
      fates_both 0 run.fates,
      drained_both run.drained,
      parts_both (codes "object") (codes "object ") declared run.objects (λ x. refl),
      parts_both (codes "switch") (codes "switch ") declared run.switch (λ x. refl),
      append_assoc,
    ) refl
