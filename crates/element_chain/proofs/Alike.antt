-- A run of an element by itself, and its run where it stands in the whole.
use Rattle.std.proofs.Common.{◌≡◌, ◌≢◌, ℕ, zero, suc, ◌<◌, ◌==◌, Bool, true, false, cond, List, [], ◌∷◌, ◌++◌, length, refl, sym, ap, ◌∙◌, arith, slice_index, true≢false, Option, Some, None}
use Rattle.std.specs.List.{list_any}
use Rattle.std.proofs.lemmas.Bool.{cond_both, eqb-true, or_left, or_right}
use Rattle.gal_bits.specs.Operators.{value_of as operator_value}
use Rattle.packet_fields.specs.declared.field.Field.{Field}
use Rattle.packet_fields.specs.declared.field.Field.TheVariants.{MetaPort}
use Rattle.packet_fields.specs.declared.packet.Packet.{Packet}
use Rattle.packet_fields.specs.declared.verdict.Verdict.{Verdict}
use Rattle.packet_fields.specs.Fields.{field_value}
use Rattle.packet_fields.specs.Table.{row, field_index}
use Rattle.state_store.specs.Store.{Store}
use Rattle.element_lang.specs.Tree.{ExprTree, Exprs, BodyTree, Tree}
use Rattle.element_lang.specs.Tree.ExprTree.{lit, local, field, byte, shift, apply}
use Rattle.element_lang.specs.Tree.Exprs.{no_expr, expr}
use Rattle.element_lang.specs.Tree.BodyTree.{done, stmt}
use Rattle.element_lang.specs.Widths.{local_widths, width_of}
use Rattle.element_lang.specs.Rules.{is_good_expr, are_good_exprs}
use Rattle.element_lang.specs.Meaning.{State, Outcome, Running, Ended, then_do, value_of, values_of, do_stmt, do_body}
use Rattle.element_chain.specs.Chain.{After}
use Rattle.element_chain.specs.Compose.{Numbering, Spot, seen, renamed, all_renamed, followed, joined}
use Rattle.element_chain.specs.Laws.{reads_bytes, any_reads_bytes}
use Rattle.element_lang.specs.KeptRuns.{Fits, FitsOutcome}
use Rattle.element_chain.proofs.Numbers.{Extends, IsNumbered}
use Rattle.lemmas.proofs.Tests.{and_first, and_second}

-- An element in a run of the whole: the widths of all locals, the packet that came to the entry and the one that came to
-- the element, the objects before and behind its own, which fields some element sets, and what becomes of its verdict.
pub record Instance : Type 0 where
  pub m : Tree
  pub widths : List ℕ
  pub whole : Packet
  pub own : Packet
  pub base : ℕ
  pub port : Option ℕ
  pub before : Store
  pub after : Store
  pub is_set : Field → Bool
  pub leaves : Store → Verdict → After

abbrev pub spot_of : Instance → Spot
spot_of i = record { widths = local_widths i.m; base = i.base; port = i.port }

abbrev pub own_port : Option ℕ → List ℕ → ℕ
own_port None fields = slice_index fields 0
own_port (Some j) fields = j

abbrev pub IsIn : ℕ → List ℕ → Type 0
IsIn x scope = list_any (λ y. y == x) scope ≡ true

-- the element's own variables, and those of the whole
pub record LocalsAlike (i : Instance) (scope names own whole_locals : List ℕ) : Type 0 where
  pub agree : (x : ℕ) → IsIn x scope → slice_index whole_locals (slice_index names x) ≡ slice_index own x
  pub many : length whole_locals ≡ length i.widths
  pub own_many : length own ≡ length i.m.locals

pub record FieldsAlike (i : Instance) (own whole_fields : List ℕ) : Type 0 where
  pub same : (k : ℕ) → k ≢ 0 → slice_index whole_fields k ≡ slice_index own k
  pub all : length whole_fields ≡ 37
  pub own_all : length own ≡ 37
  pub port : own_port i.port whole_fields ≡ slice_index own 0
  pub unset : (f : Field) → i.is_set f ≡ false → slice_index whole_fields (field_index f) ≡ field_value i.whole.bytes i.whole.port f

pub record Alike (i : Instance) (scope names : List ℕ) (s t : State) : Type 0 where
  pub locals : LocalsAlike i scope names s.locals t.locals
  pub fields : FieldsAlike i s.fields t.fields
  pub store : t.store ≡ i.before ++ (s.store ++ i.after)

-- where the element's run has ended, that of the whole has ended as the chain does
abbrev pub AlikeOutcomes : Instance → List ℕ → List ℕ → Outcome → Outcome → Type 0
AlikeOutcomes i scope names (Running s) (Running t) = Alike i scope names s t
AlikeOutcomes i scope names (Running s) (Ended st verdict) = ⊥
AlikeOutcomes i scope names (Ended st verdict) (Running t) = ⊥
AlikeOutcomes i scope names (Ended st verdict) (Ended all last) =
    (all ≡ joined (i.leaves st verdict).stores) × (last ≡ (i.leaves st verdict).verdict)

pub then_alike : (i : Instance) (scope names scope' names' : List ℕ) (o p : Outcome) (go also : State → Outcome)
    → AlikeOutcomes i scope names o p → FitsOutcome i.m o
    → ((s t : State) → Fits i.m s → Alike i scope names s t → AlikeOutcomes i scope' names' (go s) (also t))
    → AlikeOutcomes i scope' names' (then_do o go) (then_do p also)
then_alike i scope names scope' names' (Running s) (Running t) go also alike fits goes = goes s t fits alike
then_alike i scope names scope' names' (Ended st verdict) (Ended all last) go also alike fits goes = alike
then_alike i scope names scope' names' o p go also alike fits goes = absurd alike

-- fewer locals in scope, or the same under more names
pub fewer_alike : (i : Instance) (scope names scope' names' : List ℕ) (s t : State)
    → ((x : ℕ) → IsIn x scope' → IsIn x scope × (slice_index names' x ≡ slice_index names x))
    → Alike i scope names s t → Alike i scope' names' s t
fewer_alike i scope names scope' names' s t fewer alike = record {
  locals = record {
    agree = λ x is. ap (slice_index t.locals) (fewer x is).1 ∙ alike.locals.agree x (fewer x is).0;
    many = alike.locals.many;
    own_many = alike.locals.own_many;
  };
  fields = alike.fields;
  store = alike.store;
}

pub fewer_outcomes : (i : Instance) (scope names scope' names' : List ℕ) (o p : Outcome)
    → ((x : ℕ) → IsIn x scope' → IsIn x scope × (slice_index names' x ≡ slice_index names x))
    → AlikeOutcomes i scope names o p → AlikeOutcomes i scope' names' o p
fewer_outcomes i scope names scope' names' (Running s) (Running t) fewer alike = fewer_alike i scope names scope' names' s t fewer alike
fewer_outcomes i scope names scope' names' o p fewer alike = alike

-- ## bodies one behind the other
pub do_followed : (widths : List ℕ) (packet : Packet) (a b : BodyTree) (t : State)
    → do_body widths packet (followed a b) t ≡ then_do (do_body widths packet a t) (do_body widths packet b)
do_followed widths packet done b t = refl
do_followed widths packet (stmt s a) b t = by_outcome (do_stmt widths packet s t) (do_followed widths packet a b)
  where
    by_outcome : (o : Outcome) → ((u : State) → do_body widths packet (followed a b) u ≡ then_do (do_body widths packet a u) (do_body widths packet b))
        → then_do o (do_body widths packet (followed a b)) ≡ then_do (then_do o (do_body widths packet a)) (do_body widths packet b)
    by_outcome (Running u) later = later u
    by_outcome (Ended st verdict) later = refl

-- ## expressions
port_width : (f : Field) → field_index f ≡ 0 → 8 ≡ (row f).width
port_width MetaPort e = refl
port_width f e = absurd (omega (arith, e))

pub seen_width : (widths : List ℕ) (port : Option ℕ) (f : Field) → width_of widths (seen port f) ≡ (row f).width
seen_width widths None f = refl
seen_width widths (Some j) f =
    cond_both (field_index f == 0) (lit j 8) (field f) (λ e. width_of widths e ≡ (row f).width) (λ e. port_width f (eqb-true (field_index f) 0 e)) (λ e. refl)

all_same : (xs ys : List ℕ) (k : ℕ) → slice_index xs 0 ≡ slice_index ys 0 → ((k : ℕ) → k ≢ 0 → slice_index xs k ≡ slice_index ys k) → slice_index xs k ≡ slice_index ys k
all_same xs ys zero first rest = first
all_same xs ys (suc k) first rest = rest (suc k) (λ e. absurd (omega (arith, e)))

not_zero : (k : ℕ) → (k == 0) ≡ false → k ≢ 0
not_zero zero e same = true≢false e
not_zero (suc k) e same = absurd (omega (arith, same))

seen_value : (widths : List ℕ) (packet : Packet) (s t : State) (port : Option ℕ) (f : Field) → own_port port t.fields ≡ slice_index s.fields 0
    → ((k : ℕ) → k ≢ 0 → slice_index t.fields k ≡ slice_index s.fields k) → value_of widths packet (seen port f) t ≡ slice_index s.fields (field_index f)
seen_value widths packet s t None f port rest = all_same t.fields s.fields (field_index f) port rest
seen_value widths packet s t (Some j) f port rest =
    cond_both (field_index f == 0) (lit j 8) (field f) (λ e. value_of widths packet e t ≡ slice_index s.fields (field_index f))
    (λ e. port ∙ ap (slice_index s.fields) (sym (eqb-true (field_index f) 0 e)))
    (λ e. rest (field_index f) (not_zero (field_index f) e))

-- the width of an expression stays
pub width_renamed : (own widths : List ℕ) (port : Option ℕ) (n : Numbering) (scope : List ℕ) → IsNumbered own n → ((x : ℕ) → IsIn x scope → x < length n.names) → Extends n.widths widths
    → (e : ExprTree) → is_good_expr own scope e ≡ true → width_of widths (renamed port n.names e) ≡ width_of own e
width_renamed own widths port n scope numbered within grown (local x) good =
    grown.same (slice_index n.names x) (numbered.below x (within x good)) ∙ numbered.wide x (within x good)
width_renamed own widths port n scope numbered within grown (field f) good = seen_width widths port f
width_renamed own widths port n scope numbered within grown (shift op by arg) good = width_renamed own widths port n scope numbered within grown arg (and_second _ _ good)
width_renamed own widths port n scope numbered within grown _ good = refl

module _ (i : Instance) (n : Numbering) (scope : List ℕ) (numbered : IsNumbered (local_widths i.m) n) (within : (x : ℕ) → IsIn x scope → x < length n.names)
    (grown : Extends n.widths i.widths) (s t : State) (alike : Alike i scope n.names s t) where
  mutual
    pub value_alike : (e : ExprTree) → is_good_expr (local_widths i.m) scope e ≡ true → (reads_bytes e ≡ true → i.own.bytes ≡ i.whole.bytes)
        → value_of i.widths i.whole (renamed i.port n.names e) t ≡ value_of (local_widths i.m) i.own e s
    value_alike (lit value width) good bytes = refl
    value_alike (local x) good bytes = alike.locals.agree x good
    value_alike (field f) good bytes = seen_value i.widths i.whole s t i.port f alike.fields.port alike.fields.same
    value_alike (byte index) good bytes =
        ap (slice_index i.whole.bytes) (value_alike index (and_first _ _ good) (λ _. bytes refl))
        ∙ ap (λ b. slice_index b (value_of (local_widths i.m) i.own index s)) (sym (bytes refl))
    value_alike (shift op by arg) good bytes =
        ap (λ v. operator_value op (width_of i.widths (renamed i.port n.names arg)) (v ∷ by ∷ [])) (value_alike arg (and_second _ _ good) bytes)
        ∙ ap (λ w. operator_value op w (value_of (local_widths i.m) i.own arg s ∷ by ∷ [])) (width_renamed (local_widths i.m) i.widths i.port n scope numbered within grown arg (and_second _ _ good))
    value_alike (apply op width args) good bytes = ap (operator_value op width) (values_alike args (and_first _ _ good) bytes)

    pub values_alike : (es : Exprs) → are_good_exprs (local_widths i.m) scope es ≡ true → (any_reads_bytes es ≡ true → i.own.bytes ≡ i.whole.bytes)
        → values_of i.widths i.whole (all_renamed i.port n.names es) t ≡ values_of (local_widths i.m) i.own es s
    values_alike no_expr good bytes = refl
    values_alike (expr e es) good bytes =
        ap (λ v. v ∷ values_of i.widths i.whole (all_renamed i.port n.names es) t)
        (value_alike e (and_first _ _ good) (λ h. bytes (or_left (reads_bytes e) (any_reads_bytes es) h)))
        ∙ ap (λ vs. value_of (local_widths i.m) i.own e s ∷ vs)
        (values_alike es (and_second (is_good_expr (local_widths i.m) scope e) _ good) (λ h. bytes (or_right (reads_bytes e) (any_reads_bytes es) h)))
