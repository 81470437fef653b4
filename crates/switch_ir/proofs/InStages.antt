-- A pass that goes on stage by stage computes what the whole pass computes over the tables that it sees at each stage.
use Rattle.std.proofs.Common.{◌≡◌, ◌≤◌, ◌<◌, ◌==◌, ◌%◌, ◌^◌, ℕ, zero, suc, Bool, true, false, ◌&&◌, ◌||◌, List, [], ◌∷◌, ◌++◌, Option, Some, None, is_some, refl, sym, ap, ◌∙◌, subst, arith, ⊎_elim, slice_index, if◌then◌else◌}
use Rattle.std.specs.Prelude.{unwrap_or}
use Rattle.std.specs.List.{AllByRecursion as Each, list_any, list_all}
use Rattle.std.specs.Int.{to_be_bytes, w32}
use Rattle.std.proofs.lemmas.Bool.{cond-true, cond-false, cases_Bool, eq-eqb, eqb-true, lt-ltb, and_parts, or_left, or_right, or_parts, or_from, false≢true, true≢false}
use Rattle.packet_fields.specs.declared.packet.Packet.{Packet}
use Rattle.packet_fields.specs.declared.verdict.Verdict.TheVariants.{Drop, Send}
use Rattle.packet_fields.specs.Fields.{with_field}
use Rattle.state_store.specs.Store.{Store, object_at}
use Rattle.flat_ir.specs.declared.program.ValueId.{ValueId}
use Rattle.flat_ir.specs.declared.program.FieldValue.{FieldValue}
use Rattle.flat_ir.specs.declared.program.Block.{Block}
use Rattle.flat_ir.specs.Program.{Work, operands}
use Rattle.flat_ir.specs.Program.Work.{look}
use Rattle.flat_ir.specs.Blocks.{Reading, is_on, same, block_at, line, holds, is_live}
use Rattle.flat_ir.specs.Run.{results, with_writes}
use Rattle.flat_ir.specs.Laws.{Same}
use Rattle.split_model.specs.declared.layout.Crossing.{Crossing}
use Rattle.split_model.specs.Crossing.{is_value, is_among}
use Rattle.split_model.specs.Shown.{looks_at}
use Rattle.transfer_header.specs.Bits.{bits_of, packed}
use Rattle.transfer_header.specs.Values.{value_bits, value_by}
use Rattle.transfer_header.specs.Frames.{up_frame}
use Rattle.switch_ir.specs.Passes.{Step, PassCode, Code}
use Rattle.switch_ir.specs.Meaning.{is_step, after_stage, after_stages, pass_values, leaves}
use Rattle.switch_ir.specs.Spans.{is_condition, is_read_last, is_tested, last_read, last_stage}
use Rattle.switch_ir.specs.Staged.{Numbers, known, Staging, is_of_stage, is_had, is_read_later, is_looked_at, last_numbers, post_staging, pre_staging, HasNoMore}
use Rattle.switch_ir.specs.Staged.{IsEntered, IsStaged, IsOver, Sees, EndsBy, EndsDownBy}
use Rattle.switch_ir.specs.declared.port.UpEnd.{UpEnd}
use Rattle.switch_ir.specs.declared.port.UpEnd.TheVariants as up
use Rattle.switch_ir.specs.declared.port.DownEnd.{DownEnd}
use Rattle.switch_ir.specs.declared.port.DownEnd.TheVariants as down
use Rattle.flat_ir.proofs.Exact.{same_itself}
use Rattle.flat_ir.proofs.Laws.{readings_that_agree-operands, readings_that_agree-results}
use Rattle.lemmas.proofs.Lists.{each_both, each_weaker}
use Rattle.split_model.proofs.Sights.{each_among}

-- the numbers agree on what is read once all stages are done
abbrev pub AgreeLast : Staging → Reading → Reading → Type 0
AgreeLast p reads others = (v : ValueId) → is_read_last p.layout p.code v ≡ true → reads v ≡ others v

-- ## Lists and tests

chosen : (b : Bool) {x x' y y' : ℕ} → (b ≡ true → x ≡ x') → (b ≡ false → y ≡ y') → (if b then x else y) ≡ (if b then x' else y')
chosen true first second = first refl
chosen false first second = second refl

-- ## What instructions read and look up

-- what an instruction reads is read at its stage or later
abbrev IsReader : List Step → Step → Type 0
IsReader ss s = Each (λ v. s.stage ≤ last_stage ss v) (operands s.work)

readers : (ss : List Step) → Each (IsReader ss) ss
readers [] = tt
readers (s ∷ ss) = (
  each_weaker (λ v. is_among v (operands s.work) ≡ true) (λ v. s.stage ≤ last_stage (s ∷ ss) v)
      (λ v h. let now = cond-true (is_among v (operands s.work)) s.stage 0 h in omega (arith, now))
      (operands s.work) (each_among (operands s.work)),
  each_weaker (IsReader ss) (IsReader (s ∷ ss))
      (λ x h. each_weaker (λ v. x.stage ≤ last_stage ss v) (λ v. x.stage ≤ last_stage (s ∷ ss) v) (λ v k. omega (arith, k)) (operands x.work) h)
      ss (readers ss),
)

abbrev IsLooker : List Step → Step → Type 0
IsLooker ss s = (o : ℕ) → looks_at o s.work ≡ true → is_looked_at ss o ≡ true

lookers : (ss : List Step) → Each (IsLooker ss) ss
lookers [] = tt
lookers (s ∷ ss) = (
  λ o h. or_left (looks_at o s.work) (is_looked_at ss o) h,
  each_weaker (IsLooker ss) (IsLooker (s ∷ ss)) (λ x h o k. or_right (looks_at o s.work) (is_looked_at ss o) (h o k)) ss (lookers ss),
)

abbrev SameObjects : Store → Store → Work → Type 0
SameObjects view tables work = (o : ℕ) → looks_at o work ≡ true → object_at view o ≡ object_at tables o

seen_same : (r : Reading) (view tables : Store) (packet : Packet) (work : Work) → SameObjects view tables work → results r false view packet work ≡ results r false tables packet work
seen_same r view tables packet (look object keys) h = rw (h object (eq-eqb object object refl)) refl
seen_same r view tables packet work h = refl

-- ## One stage

pub stage_none : (ss : List Step) (t : ℕ) (r : Reading) (tables : Store) (packet : Packet) (v : ValueId) → is_of_stage ss t v ≡ false → after_stage ss t r tables packet v ≡ r v
stage_none [] t r tables packet v e = refl
stage_none (s ∷ ss) t r tables packet v e =
    let parts = or_parts (is_step s t v) (is_of_stage ss t v) e in
    cond-false (is_step s t v) (slice_index (results r false tables packet s.work) v.result) (after_stage ss t r tables packet v) parts.0
    ∙ stage_none ss t r tables packet v parts.1

abbrev GivesSame : ℕ → Reading → Reading → Store → Store → Packet → ValueId → Step → Type 0
GivesSame t r r' view tables packet v s = is_step s t v ≡ true → results r false view packet s.work ≡ results r' false tables packet s.work

stage_same : (ss : List Step) (t : ℕ) (r r' : Reading) (view tables : Store) (packet : Packet) (v : ValueId) → Each (GivesSame t r r' view tables packet v) ss
    → (is_of_stage ss t v ≡ false → r v ≡ r' v) → after_stage ss t r view packet v ≡ after_stage ss t r' tables packet v
stage_same [] t r r' view tables packet v each rest = rest refl
stage_same (s ∷ ss) t r r' view tables packet v each rest =
    chosen (is_step s t v) (λ own. ap (λ rs. slice_index rs v.result) (each.0 own))
    (λ other. stage_same ss t r r' view tables packet v each.1 (λ none. rest (or_from (is_step s t v) (is_of_stage ss t v) other none)))

-- ## All stages

module _ (p : Staging) (given : Reading) (tables : Store) (packet : Packet) where
  abbrev steps : List Step
  steps = p.code.steps

  -- the values of the whole pass over the tables, once its stages below t are done
  abbrev done : ℕ → Reading
  done t = after_stages steps given tables packet t

  abbrev Over : ℕ → Numbers → Type 0
  Over t numbers = IsOver p given tables packet t numbers

  read_at_last : (t : ℕ) (v : ValueId) → t ≤ p.code.highest → is_read_last p.layout p.code v ≡ true → is_read_later p t v ≡ true
  read_at_last t v low last =
      lt-ltb t (last_read p.layout p.code v) (let at = cond-true (is_read_last p.layout p.code v) (suc p.code.highest) 0 last in omega (arith, at, low))

  read_by : (t : ℕ) (v : ValueId) → t < last_stage steps v → is_read_later p t v ≡ true
  read_by t v less = lt-ltb t (last_read p.layout p.code v) (omega (arith, less))

  module _ (no_more : HasNoMore p given tables packet) where
    -- what is read later, the pass knows right
    knows_by : (t : ℕ) (numbers : Numbers) (v : ValueId) → Over t numbers → is_read_later p t v ≡ true → (o : Option ℕ) → numbers v ≡ o → unwrap_or o 0 ≡ done (suc t) v
    knows_by t numbers v over later (Some n) e = over.right v n e
    knows_by t numbers v over later None e =
        ⊎_elim
        (λ had. absurd (false≢true (sym (ap is_some e) ∙ over.enough v had later)))
        (λ not. sym (no_more t v not))
        (cases_Bool (is_had p t v))

    knows : (t : ℕ) (numbers : Numbers) (v : ValueId) → Over t numbers → is_read_later p t v ≡ true → known numbers v ≡ done (suc t) v
    knows t numbers v over later = knows_by t numbers v over later (numbers v) refl

    -- an instruction of the next stage gives, from what is known, what it gives in the whole pass
    gives : (t : ℕ) (old : Numbers) (view : Store) (v : ValueId) → Over t old → Sees p view tables → (s : Step) → IsReader steps s × IsLooker steps s
        → GivesSame (suc t) (known old) (done (suc t)) view tables packet v s
    gives t old view v over sees s h own =
        let stage : s.stage ≡ suc t = eqb-true s.stage (suc t) (and_parts (s.stage == suc t) (s.instruction == v.instruction) own).0 in
        readings_that_agree-results (known old) (done (suc t)) false view packet s.work
        (readings_that_agree-operands (known old) (done (suc t)) s.work
        (each_weaker (λ w. s.stage ≤ last_stage steps w) (Same (known old) (done (suc t))) (λ w k. knows t old w over (read_by t w (omega (arith, stage, k))))
        (operands s.work) h.0))
        ∙ seen_same (done (suc t)) view tables packet s.work (λ o k. sees o (h.1 o k))

    all_give : (t : ℕ) (old : Numbers) (view : Store) (v : ValueId) → Over t old → Sees p view tables
        → Each (GivesSame (suc t) (known old) (done (suc t)) view tables packet v) steps
    all_give t old view v over sees =
        each_weaker (λ s. IsReader steps s × IsLooker steps s) (GivesSame (suc t) (known old) (done (suc t)) view tables packet v)
        (gives t old view v over sees) steps
        (each_both (IsReader steps) (IsLooker steps) steps (readers steps) (lookers steps))

    pub staged_over : (t : ℕ) (old new : Numbers) (view : Store) → Over t old → IsStaged p (suc t) old view packet new → Sees p view tables → Over (suc t) new
    staged_over t old new view over staged sees = record {
      enough = staged.enough;
      right = λ v n e. ⊎_elim
          (λ own. staged.newest v n own e
          ∙ stage_same steps (suc t) (known old) (done (suc t)) view tables packet v (all_give t old view v over sees)
          (λ none. absurd (true≢false (sym own ∙ none))))
          (λ other. over.right v n (staged.earlier v n other e) ∙ sym (stage_none steps (suc t) (done (suc t)) tables packet v other))
          (cases_Bool (is_of_stage steps (suc t) v));
    }

    last_over : (t : ℕ) (old : Numbers) (view : Store) → t ≤ p.code.highest → Over t old → Sees p view tables
        → AgreeLast p (last_numbers p (suc t) old view packet) (done (suc (suc t)))
    last_over t old view low over sees v last =
        stage_same steps (suc t) (known old) (done (suc t)) view tables packet v (all_give t old view v over sees)
        (λ none. knows t old v over (read_at_last t v low last))

    pub ended_over : (t : ℕ) (old : Numbers) (view : Store) → p.code.highest ≡ suc t → Over t old → Sees p view tables
        → AgreeLast p (last_numbers p (suc t) old view packet) (pass_values p.code given tables packet)
    ended_over t old view e over sees =
        subst (λ h. AgreeLast p (last_numbers p (suc t) old view packet) (done (suc h))) (sym e) (last_over t old view (omega (arith, e)) over sees)

  look_same : (t : ℕ) (r : Reading) (view : Store) (v : ValueId) → Sees p view tables → Each (GivesSame t r r view tables packet v) steps
  look_same t r view v sees =
      each_weaker (IsLooker steps) (GivesSame t r r view tables packet v) (λ s h own. seen_same r view tables packet s.work (λ o k. sees o (h o k))) steps (lookers steps)

  pub entered_over : (view : Store) (numbers : Numbers) → IsEntered p given view packet numbers → Sees p view tables → Over 0 numbers
  entered_over view numbers entered sees = record {
    enough = entered.enough;
    right = λ v n e. entered.right v n e ∙ stage_same steps 0 given given view tables packet v (look_same 0 given view v sees) (λ none. refl);
  }

-- ## Answers

holds_same : (blocks : List Block) (r r' : Reading) (k : ℕ) → ((v : ValueId) → is_condition blocks v k ≡ true → r v ≡ r' v) → holds blocks r k ≡ holds blocks r' k
holds_same blocks r r' zero h = refl
holds_same blocks r r' (suc k) h = let b = block_at blocks k in ap (λ n. same b.polarity (is_on n)) (h b.cond (same_itself b.cond))

all_hold : (blocks : List Block) (r r' : Reading) (ks : List ℕ) → ((v : ValueId) → list_any (is_condition blocks v) ks ≡ true → r v ≡ r' v) → list_all (holds blocks r) ks ≡ list_all (holds blocks r') ks
all_hold blocks r r' [] h = refl
all_hold blocks r r' (k ∷ ks) h =
    ap (λ b. b && list_all (holds blocks r) ks) (holds_same blocks r r' k (λ v e. h v (or_left (is_condition blocks v k) (list_any (is_condition blocks v) ks) e)))
    ∙ ap (λ b. holds blocks r' k && b) (all_hold blocks r r' ks (λ v e. h v (or_right (is_condition blocks v k) (list_any (is_condition blocks v) ks) e)))

abbrev tested_in : List Block → List ℕ → ValueId → Bool
tested_in blocks rest v = list_any (λ k. list_any (is_condition blocks v) (line blocks k)) rest

any_live : (blocks : List Block) (r r' : Reading) (ks : List ℕ) → ((v : ValueId) → tested_in blocks ks v ≡ true → r v ≡ r' v) → list_any (is_live blocks r) ks ≡ list_any (is_live blocks r') ks
any_live blocks r r' [] h = refl
any_live blocks r r' (k ∷ ks) h =
    ap (λ b. b || list_any (is_live blocks r) ks) (all_hold blocks r r' (line blocks k) (λ v e. h v (or_left (list_any (is_condition blocks v) (line blocks k)) (tested_in blocks ks v) e)))
    ∙ ap (λ b. is_live blocks r' k || b) (any_live blocks r r' ks (λ v e. h v (or_right (list_any (is_condition blocks v) (line blocks k)) (tested_in blocks ks v) e)))

writes_same : (r r' : Reading) (ws : List FieldValue) (bytes : List ℕ) → ((v : ValueId) → list_any (λ (w : FieldValue). is_value v w.value) ws ≡ true → r v ≡ r' v) → with_writes ws r bytes ≡ with_writes ws r' bytes
writes_same r r' [] bytes h = refl
writes_same r r' (w ∷ ws) bytes h =
    ap (λ n. with_writes ws r (with_field bytes w.field n)) (h w.value (or_left (is_value w.value w.value) (list_any (λ (x : FieldValue). is_value w.value x.value) ws) (same_itself w.value)))
    ∙ writes_same r r' ws (with_field bytes w.field (r' w.value)) (λ v e. h v (or_right (is_value v w.value) (list_any (λ (x : FieldValue). is_value v x.value) ws) e))

-- the verdict is made of the value
abbrev is_output : PassCode → ValueId → Bool
is_output code v = is_among v (code.send ∷ code.port ∷ []) || list_any (λ (w : FieldValue). is_value v w.value) code.fields

leaves_same : (code : PassCode) (r r' : Reading) (packet : Packet) → ((v : ValueId) → is_output code v ≡ true → r v ≡ r' v) → leaves code r packet ≡ leaves code r' packet
leaves_same code r r' packet h =
    let others : ValueId → Bool = λ v. list_any (λ (w : FieldValue). is_value v w.value) code.fields in
    let send = h code.send (or_left (is_among code.send (code.send ∷ code.port ∷ [])) (others code.send) (or_left (is_value code.send code.send) (is_among code.send (code.port ∷ [])) (same_itself code.send))) in
    let port = h code.port (or_left (is_among code.port (code.send ∷ code.port ∷ [])) (others code.port) (or_right (is_value code.port code.send) (is_among code.port (code.port ∷ [])) (or_left (is_value code.port code.port) false (same_itself code.port)))) in
    ap (λ n. if n == 0 then Drop else Send (r code.port % 2 ^ 8) (with_writes code.fields r packet.bytes)) send
    ∙ ap (λ n. if r' code.send == 0 then Drop else Send (n % 2 ^ 8) (with_writes code.fields r packet.bytes)) port
    ∙ ap (λ bytes. if r' code.send == 0 then Drop else Send (r' code.port % 2 ^ 8) bytes) (writes_same r r' code.fields packet.bytes (λ v e. h v (or_right (is_among v (code.send ∷ code.port ∷ [])) (others v) e)))

abbrev crosses_in : List Crossing → ValueId → Bool
crosses_in cs v = list_any (λ (c : Crossing). is_value v c.value) cs

bits_same : (cs : List Crossing) (r r' : Reading) → ((v : ValueId) → crosses_in cs v ≡ true → r v ≡ r' v) → value_bits cs (value_by r) ≡ value_bits cs (value_by r')
unfolding value_bits
bits_same [] r r' h = refl
bits_same (c ∷ cs) r r' h =
    ap (λ n. bits_of c.width n ++ value_bits cs (value_by r)) (h c.value (or_left (is_value c.value c.value) (crosses_in cs c.value) (same_itself c.value)))
    ∙ ap (λ bits. bits_of c.width (r' c.value) ++ bits) (bits_same cs r r' (λ v e. h v (or_right (is_value v c.value) (crosses_in cs v) e)))

frame_same : (cs : List Crossing) (number port : ℕ) (r r' : Reading) (bytes : List ℕ) → ((v : ValueId) → crosses_in cs v ≡ true → r v ≡ r' v) → up_frame cs number port r bytes ≡ up_frame cs number port r' bytes
frame_same cs number port r r' bytes h = ap (λ bits. 1 ∷ to_be_bytes w32 number ++ port ∷ packed bits ++ bytes) (bits_same cs r r' h)

-- a value that is read last is read by one of these
module _ (layout : List Crossing) (code : PassCode) (r r' : Reading) (h : (v : ValueId) → is_read_last layout code v ≡ true → r v ≡ r' v) where
  taken_up : (v : ValueId) → crosses_in layout v ≡ true → r v ≡ r' v
  taken_up v e = h v (or_left (crosses_in layout v) (is_tested code v || is_output code v) e)

  tested : (v : ValueId) → is_tested code v ≡ true → r v ≡ r' v
  tested v e = h v (or_right (crosses_in layout v) (is_tested code v || is_output code v) (or_left (is_tested code v) (is_output code v) e))

  put_out : (v : ValueId) → is_output code v ≡ true → r v ≡ r' v
  put_out v e = h v (or_right (crosses_in layout v) (is_tested code v || is_output code v) (or_right (is_tested code v) (is_output code v) e))

pub ends_up : (code : Code) (r r' : Reading) → AgreeLast (pre_staging code) r r' → (number : ℕ) (packet : Packet) (end : UpEnd) → EndsBy code r number packet end → EndsBy code r' number packet end
ends_up code r r' h number packet (up.Finished verdict) a =
    (sym (any_live code.pre.blocks r r' code.pre.rest (tested code.up code.pre r r' h)) ∙ a.0, a.1 ∙ leaves_same code.pre r r' packet (put_out code.up code.pre r r' h))
ends_up code r r' h number packet (up.Up frame) a =
    (sym (any_live code.pre.blocks r r' code.pre.rest (tested code.up code.pre r r' h)) ∙ a.0, a.1 ∙ frame_same code.up number packet.port r r' packet.bytes (taken_up code.up code.pre r r' h))
ends_up code r r' h number packet end a = tt

pub ends_down : (code : Code) (r r' : Reading) → AgreeLast (post_staging code) r r' → (packet : Packet) (end : DownEnd) → EndsDownBy code r packet end → EndsDownBy code r' packet end
ends_down code r r' h packet (down.Verdict verdict) a = a ∙ leaves_same code.post r r' packet (put_out [] code.post r r' h)
ends_down code r r' h packet end a = tt
