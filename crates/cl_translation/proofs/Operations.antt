-- The code of tuple operations.
use Rattle.std.proofs.Common.{◌≡◌, ℕ, zero, suc, ◌+◌, Bool, true, false, List, [], ◌∷◌, ◌++◌, length, Option, Some, None, refl, sym, ap, subst, ◌∙◌, arith, map, append_assoc, append-nil, length-append, ⊎_elim}
use Rattle.std.specs.Prelude.{◌⊎◌, ℤ, pos, slice_get, replicate}
use Rattle.cl_value.specs.declared.value.Value.{Value}
use Rattle.cl_value.specs.Acts.{fits}
use Rattle.cl_value.specs.Matching.{matches}
use Rattle.cl_code.specs.Machine.{may_ask}
use Rattle.cl_translation.specs.Statements.{IsAsked}
use Rattle.cl_value.specs.Plain.{PlainAsk, Out, In, Rd, Inp, Rdp, PlainReply, Done, Got, Miss, PlainRequest}
use Rattle.cl_ast.specs.declared.tree.TypeName.{TypeName}
use Rattle.cl_ast.specs.declared.tree.TypeName.TheVariants as types
use Rattle.cl_ast.specs.declared.tree.Operation.{Operation, out-Operation}
use Rattle.cl_ast.specs.declared.tree.Verb.{Verb}
use Rattle.cl_ast.specs.declared.tree.Verb.TheVariants as verbs
use Rattle.cl_listing.specs.Names.{Name}
use Rattle.cl_model.specs.Doing.{Steps, Gives, Prints, Asks, Stops, State, then_do, ◌>>=◌, ◌>>◌, pure, ask, checked, Checked, each_onto}
use Rattle.cl_model.specs.Doing as doing
use Rattle.cl_model.specs.Numbers.{number, truth}
use Rattle.cl_meaning.specs.Variables.{Variables}
use Rattle.cl_meaning.specs.Operations.{Does, Aim, Holds, Fills, slot, fill, store, asked, received, requested}
use Rattle.cl_meaning.specs.Expressions.{Surroundings, operation}
use Rattle.cl_meaning.specs.Parts.{field_aim}
use Rattle.cl_meaning.proofs.Equations.{operation_requests}
use Rattle.cl_sig.specs.Signatures.{PlainSignature}
use Rattle.cl_sig.specs.declared.signature.Kind.TheVariants as kinds
use Rattle.cl_code.specs.Plain.{PlainProgram}
use Rattle.cl_code.specs.Sites as sites
use Rattle.cl_code.specs.Machine.{Cells, Stack, Where, Local, Global, cells_at, with_cells, Frame, Ending, pushed, machine}
use Rattle.cl_code.specs.declared.instr.Instr.TheVariants as code
use Rattle.cl_translation.proofs.Alike.{Same}
use Rattle.cl_translation.specs.Layout.{Layout, free_cell}
use Rattle.cl_translation.specs.Stands.{IsIn, Stands}
use Rattle.cl_translation.specs.Chosen.{conversion}
use Rattle.cl_translation.proofs.Means.{Goes, End, Evaluates, converted_number}
use Rattle.cl_translation.proofs.Notation.{in_turn, in_turn_then, both, left_is, right_is}
use Rattle.cl_translation.proofs.Lists.{get_behind, get_front}
use Rattle.cl_translation.proofs.States.{changed_left, changed_right, changed_stands}
use Rattle.cl_translation.proofs.Scopes as scopes
use Rattle.cl_translation.proofs.Values.{loads_cell}
use Rattle.cl_translation.proofs.Conversions.{stored, stored_at, stores_value, none_needed}
use Rattle.cl_translation.proofs.Fields.{TargetIs, AimsAre, FieldsRun}
use Rattle.cl_translation.proofs.Requests.{to_field, same_slots, performs_request, out_asked, formals_count, Fillings, NoFilling, Skipping, Filling, fillings}
use Rattle.cl_value.specs.Ranges.{ReplyWithin}
use Rattle.cl_translation.specs.Lying.{Has, Target, ToCell, ToElement}
use Rattle.cl_translation.proofs.Bare.{Keeping, Placing, HasNoCalls}
use Rattle.cl_sites.specs.Sites.{kind_of}

-- ---- numbers that are pushed

abbrev pub backwards : List ℤ → List ℤ
backwards [] = []
backwards (n ∷ ns) = backwards ns ++ n ∷ []

pub pushed_is : (ns : List ℤ) (stack : Stack) → pushed ns stack ≡ backwards ns ++ stack
pushed_is [] stack = refl
pushed_is (n ∷ ns) stack = pushed_is ns (n ∷ stack) ∙ sym (append_assoc (backwards ns) (n ∷ []) stack)

pushed_last : (ns : List ℤ) (n : ℤ) (stack : Stack) → pushed (ns ++ n ∷ []) stack ≡ n ∷ pushed ns stack
pushed_last [] n stack = refl
pushed_last (m ∷ ns) n stack = pushed_last ns n (m ∷ stack)

pub length_backwards : (ns : List ℤ) → length (backwards ns) ≡ length ns
length_backwards [] = refl
length_backwards (n ∷ ns) = omega (arith, length-append (backwards ns) (n ∷ []), length_backwards ns)

self_converts : (of : TypeName) → conversion of of ≡ None
self_converts types.Int = refl
self_converts types.Long = refl
self_converts types.Char = refl

-- ---- `in` and `rd`, and `inp` and `rdp`

-- an operation that waits, and one that may miss
abbrev pub Waits : Verb → Type 0
Waits verb = (verb ≡ verbs.In) ⊎ (verb ≡ verbs.Rd)

abbrev pub MayMiss : Verb → Type 0
MayMiss verb = (verb ≡ verbs.Inp) ⊎ (verb ≡ verbs.Rdp)

waiting : (P : Verb → Type 0) → P verbs.In → P verbs.Rd → (verb : Verb) → Waits verb → P verb
waiting P one two verb which = ⊎_elim (λ e. subst P (sym e) one) (λ e. subst P (sym e) two) which

missing : (P : Verb → Type 0) → P verbs.Inp → P verbs.Rdp → (verb : Verb) → MayMiss verb → P verb
missing P one two verb which = ⊎_elim (λ e. subst P (sym e) one) (λ e. subst P (sym e) two) which

waits_asked : (aims : List Aim) (verb : Verb) → Waits verb → sites.asked (kind_of verb) (map to_field aims) ≡ asked verb aims
waits_asked aims = waiting (λ verb. sites.asked (kind_of verb) (map to_field aims) ≡ asked verb aims) (ap In (same_slots aims)) (ap Rd (same_slots aims))

misses_asked : (aims : List Aim) (verb : Verb) → MayMiss verb → sites.asked (kind_of verb) (map to_field aims) ≡ asked verb aims
misses_asked aims = missing (λ verb. sites.asked (kind_of verb) (map to_field aims) ≡ asked verb aims) (ap Inp (same_slots aims)) (ap Rdp (same_slots aims))

waits_may : (depth : ℕ) (verb : Verb) → Waits verb → may_ask (kind_of verb) depth ≡ true
waits_may depth = waiting (λ verb. may_ask (kind_of verb) depth ≡ true) refl refl

misses_may : (depth : ℕ) (verb : Verb) → MayMiss verb → may_ask (kind_of verb) depth ≡ true
misses_may depth = missing (λ verb. may_ask (kind_of verb) depth ≡ true) refl refl

-- which replies fit
waits_no_done : (aims : List Aim) (verb : Verb) → Waits verb → fits (asked verb aims) Done ≡ true → ⊥
waits_no_done aims = waiting (λ verb. fits (asked verb aims) Done ≡ true → ⊥) (λ h. cc) (λ h. cc)

waits_no_miss : (aims : List Aim) (verb : Verb) → Waits verb → fits (asked verb aims) Miss ≡ true → ⊥
waits_no_miss aims = waiting (λ verb. fits (asked verb aims) Miss ≡ true → ⊥) (λ h. cc) (λ h. cc)

waits_got : (aims : List Aim) (tuple : List Value) (verb : Verb) → Waits verb → fits (asked verb aims) (Got tuple) ≡ true → matches (map slot aims) tuple ≡ true
waits_got aims tuple = waiting (λ verb. fits (asked verb aims) (Got tuple) ≡ true → matches (map slot aims) tuple ≡ true) (λ h. h) (λ h. h)

misses_no_done : (aims : List Aim) (verb : Verb) → MayMiss verb → fits (asked verb aims) Done ≡ true → ⊥
misses_no_done aims = missing (λ verb. fits (asked verb aims) Done ≡ true → ⊥) (λ h. cc) (λ h. cc)

misses_got : (aims : List Aim) (tuple : List Value) (verb : Verb) → MayMiss verb → fits (asked verb aims) (Got tuple) ≡ true → matches (map slot aims) tuple ≡ true
misses_got aims tuple = missing (λ verb. fits (asked verb aims) (Got tuple) ≡ true → matches (map slot aims) tuple ≡ true) (λ h. h) (λ h. h)

-- what is told besides the formals' values
waits_answers : (reply : PlainReply) (verb : Verb) → Waits verb → sites.answer_told (kind_of verb) reply ≡ []
waits_answers reply = waiting (λ verb. sites.answer_told (kind_of verb) reply ≡ []) refl refl

misses_answers : (reply : PlainReply) (verb : Verb) → MayMiss verb → sites.answer_told (kind_of verb) reply ≡ sites.hit reply ∷ []
misses_answers reply = missing (λ verb. sites.answer_told (kind_of verb) reply ≡ sites.hit reply ∷ []) refl refl

waits_no_eval : (verb : Verb) → Waits verb → verb ≡ verbs.Eval → ⊥
waits_no_eval = waiting (λ verb. verb ≡ verbs.Eval → ⊥) (λ e. cc) (λ e. cc)

misses_no_eval : (verb : Verb) → MayMiss verb → verb ≡ verbs.Eval → ⊥
misses_no_eval = missing (λ verb. verb ≡ verbs.Eval → ⊥) (λ e. cc) (λ e. cc)

module _ (p : PlainProgram) (depth : ℕ) (A : Type 0) (F : End A) (goes : Goes p depth) (frames : List Frame) (bound : ℕ) (layout : Layout) (around : Surroundings) where
  -- numbers on the stack go into temporaries, the topmost first
  pub keeps_run : (rs : List ℤ) (held : List ℤ) (cell count a b : ℕ) → cell ≡ free_cell layout + length held → count ≡ length rs → Keeping p cell count a b → (stack : Stack) (P : Steps (A × State Variables)) (s : State Variables) (t : State Cells) → Stands bound layout held s t →
      ((t' : State Cells) → Stands bound layout (held ++ rs) s t' → Same F P (machine p depth frames b stack t')) → Same F P (machine p depth frames a (rs ++ stack) t)
  keeps_run [] held cell zero a b e long h stack P s t r go = right_is (ap (λ x. machine p depth frames x stack t) (sym h)) (go t (subst (λ l. Stands bound layout l s t) (sym (append-nil held)) r))
  keeps_run [] held cell (suc count) a b e long h stack P s t r go = absurd (omega (arith, long))
  keeps_run (n ∷ rs) held cell zero a b e long h stack P s t r go = absurd (omega (arith, long))
  keeps_run (n ∷ rs) held cell (suc count) a b e long h stack P s t r go =
      stored p depth A F goes frames a Local cell h.0 n (rs ++ stack) P t (λ room.
      keeps_run rs (held ++ n ∷ []) (suc cell) count (suc a) b (omega (arith, e, length-append held (n ∷ []))) (omega (arith, long)) h.1 stack P s _ (scopes.holds bound layout held s t r cell n e room)
      (λ t' r'. go t' (subst (λ l. Stands bound layout l s t') (append_assoc held (n ∷ []) rs) r')))

  -- a temporary is loaded
  pub loads_held : (a cell j : ℕ) (n : ℤ) → Has p a (code.LoadLocal cell) → cell ≡ free_cell layout + j → (all : List ℤ) → slice_get all j ≡ Some n → (stack : Stack) (s : State Variables) (t : State Cells) → Stands bound layout all s t → machine p depth frames a stack t ≡ machine p depth frames (suc a) (n ∷ stack) t
  loads_held a cell j n h e all is stack s t r = loads_cell p depth A F goes frames bound layout all around a Local cell n h stack t
      (ap (λ k. slice_get t.variables.frame k) e ∙ (scopes.held_there bound layout all s t r j (Rattle.std.proofs.lemmas.Option.slice_get_within all j n is) ∙ is))

  -- a value of the type, as one that is converted
  as_converted : (of : TypeName) (w : Value) → IsIn of w → (c : ℕ) (stack : Stack) (t : State Cells) → machine p depth frames c (number w ∷ stack) t ≡ (checked (converted_number of (number w)) >>= (λ n. machine p depth frames c (n ∷ stack))) t
  as_converted of w fit c stack t = none_needed p depth A F goes frames c c of of w fit (self_converts of) refl stack t

  plainly : (at' : Where) (base k c : ℕ) → k ≡ 0 → Has p c (Rattle.cl_translation.specs.Chosen.store at' base) → Has p c (Rattle.cl_translation.specs.Chosen.store at' (base + k))
  plainly at' base k c zeroed h = let e : base ≡ base + k = omega (arith, zeroed) in subst (λ m. Has p c (Rattle.cl_translation.specs.Chosen.store at' m)) e h

  -- the value of one formal goes to its place
  set_one : (target : Target) (of : TypeName) (name : Name) (k : ℕ) (all : List ℤ) → TargetIs layout all target of name k → (w : Value) → IsIn of w → (cell j : ℕ) → cell ≡ free_cell layout + j → slice_get all j ≡ Some (number w) → (ts : List Target) (first : ℕ) → cell ≡ first + length ts → (a b : ℕ) → Placing p first (target ∷ ts) a b →
      (stack : Stack) (K : Unit {0} → doing.Does Variables A) (s : State Variables) (t : State Cells) → Stands bound layout all s t →
      ((c : ℕ) → Placing p first ts c b → (s' : State Variables) (t' : State Cells) → Stands bound layout all s' t' → Same F (K tt s') (machine p depth frames c stack t')) →
      Same F ((store name k w >>= K) s) (machine p depth frames a stack t)
  set_one (ToCell at' base) of name k all is w fit cell j e there ts first e' a b h stack K s t r go =
      right_is (loads_held a (first + length ts) j (number w) h.0 (omega (arith, e, e')) all there stack s t r ∙ as_converted of w fit (suc a) stack t)
      (stores_value p depth A F goes frames bound layout all name k w of at' base (suc is.1.0) of K (λ n. machine p depth frames (suc a) (n ∷ stack)) s t fit is.1.1 (omega (arith, is.0)) r (λ w' fit'.
      stored p depth A F goes frames (suc a) at' (base + k) (plainly at' base k (suc a) is.0 h.1) (number w') stack _ t (λ room.
      go (suc (suc a)) h.2 (changed_left bound layout all s t r name k w') (changed_right bound layout all s t r name k w' at' (base + k)) (changed_stands bound layout all s t r name k w' at' base (suc is.1.0) of is.1.1 (omega (arith, is.0)) fit'))))
  set_one (ToElement at' base size place) of name k all is w fit cell j e there ts first e' a b h stack K s t r go =
      right_is (loads_held a place is.2.0 (pos k) h.0 is.2.1 all is.2.2 stack s t r ∙ (loads_held (suc a) (first + length ts) j (number w) h.1 (omega (arith, e, e')) all there (pos k ∷ stack) s t r ∙ as_converted of w fit (suc (suc a)) (pos k ∷ stack) t))
      (stores_value p depth A F goes frames bound layout all name k w of at' base size of K (λ n. machine p depth frames (suc (suc a)) (n ∷ pos k ∷ stack)) s t fit is.0 is.1 r (λ w' fit'.
      stored_at p depth A F goes frames (suc (suc a)) at' base size k h.2 is.1 (number w') stack _ t (λ room.
      go (suc (suc (suc a))) h.3 (changed_left bound layout all s t r name k w') (changed_right bound layout all s t r name k w' at' (base + k)) (changed_stands bound layout all s t r name k w' at' base size of is.0 is.1 fit'))))

  -- The values of formals go to their places, from left to right. They lie in temporaries behind others.
  sets_run : (whole before : List ℤ) {aims : List Aim} {ws : List Value} {ts : List Target} {ns : List ℤ} → Fillings layout whole aims ws ts ns → (tail : List ℤ) → whole ≡ before ++ (backwards ns ++ tail) → (first : ℕ) → first ≡ free_cell layout + length before → (a b : ℕ) → Placing p first ts a b → (stack : Stack) (K : Unit {0} → doing.Does Variables A) →
      ((s' : State Variables) (t' : State Cells) → Stands bound layout whole s' t' → Same F (K tt s') (machine p depth frames b stack t')) → (s : State Variables) (t : State Cells) → Stands bound layout whole s t → Same F ((fill aims ws >>= K) s) (machine p depth frames a stack t)
  unfolding fill ◌>>=◌ ◌>>◌ then_do pure
  sets_run whole before NoFilling tail is first e a b h stack K go s t r = right_is (ap (λ x. machine p depth frames x stack t) (sym h)) (go s t r)
  sets_run whole before (Skipping v w aims ws ts ns rest) tail is first e a b h stack K go s t r = sets_run whole before rest tail is first e a b h stack K go s t r
  sets_run whole before (Filling of name k w target aims ws ts ns there fit rest) tail is first e a b h stack K go s t r =
      left_is (ap (λ d. d s) (in_turn_then (store name k w) (fill aims ws) K))
      (set_one target of name k whole there w fit (first + length ts) (length before + length ns) (omega (arith, e, counted rest)) (last) ts first refl a b h stack (λ _. fill aims ws >>= K) s t r (λ c h' s' t' r'.
      sets_run whole before rest (number w ∷ tail) (is ∙ ap (λ l. before ++ l) (append_assoc (backwards ns) (number w ∷ []) tail)) first e c b h' stack K go s' t' r'))
    where
      counted : {aims' : List Aim} {ws' : List Value} {ts' : List Target} {ns' : List ℤ} → Fillings layout whole aims' ws' ts' ns' → length ts' ≡ length ns'
      counted NoFilling = refl
      counted (Skipping v' w' aims' ws' ts' ns' rest') = counted rest'
      counted (Filling of' name' k' w' target' aims' ws' ts' ns' there' fit' rest') = ap suc (counted rest')

      last : slice_get whole (length before + length ns) ≡ Some (number w)
      last = ap (λ l. slice_get l (length before + length ns)) (is ∙ ap (λ l. before ++ l) (append_assoc (backwards ns) (number w ∷ []) tail))
          ∙ (get_behind before (backwards ns ++ (number w ∷ tail)) (length before + length ns) (length ns) refl
          ∙ get_behind (backwards ns) (number w ∷ tail) (length ns) 0 (omega (arith, length_backwards ns)))

  -- more may be held
  more_target : (all more : List ℤ) (target : Target) (of : TypeName) (name : Name) (k : ℕ) → TargetIs layout all target of name k → TargetIs layout (all ++ more) target of name k
  more_target all more (ToCell at' base) of name k is = is
  more_target all more (ToElement at' base size cell) of name k is = (is.0, is.1, (is.2.0, is.2.1, get_front all more is.2.0 (Rattle.std.proofs.lemmas.Option.slice_get_within all is.2.0 (pos k) is.2.2) ∙ is.2.2))

  more_aims : (all more : List ℤ) {ms : List Rattle.cl_sig.specs.declared.signature.Mark.Mark} {aims : List Aim} {ns : List ℤ} {ts : List Target} → AimsAre layout all ms aims ns ts → AimsAre layout (all ++ more) ms aims ns ts
  more_aims all more Rattle.cl_translation.proofs.Fields.NoAims = Rattle.cl_translation.proofs.Fields.NoAims
  more_aims all more (Rattle.cl_translation.proofs.Fields.Known c ms aims ns ts rest) = Rattle.cl_translation.proofs.Fields.Known c ms aims ns ts (more_aims all more rest)
  more_aims all more (Rattle.cl_translation.proofs.Fields.Evaluated of v ms aims ns ts fit rest) = Rattle.cl_translation.proofs.Fields.Evaluated of v ms aims ns ts fit (more_aims all more rest)
  more_aims all more (Rattle.cl_translation.proofs.Fields.Receives of name k target ms aims ns ts is rest) = Rattle.cl_translation.proofs.Fields.Receives of name k target ms aims ns ts (more_target all more target of name k is) (more_aims all more rest)

  counted_by : (all : List ℤ) {aims : List Aim} {ws : List Value} {ts : List Target} {ns : List ℤ} → Fillings layout all aims ws ts ns → length ts ≡ length ns
  counted_by all NoFilling = refl
  counted_by all (Skipping v w aims ws ts ns rest) = counted_by all rest
  counted_by all (Filling of name k w target aims ws ts ns there fit rest) = ap suc (counted_by all rest)

  abbrev request : ℕ → PlainAsk → PlainRequest
  request number operation = record { site = number; ask = operation }

  -- a request on both sides
  asks_same : (q q' : PlainRequest) → q ≡ q' → (K : PlainReply → doing.Does Variables A) (G : PlainReply → Steps (Option ℤ × State Cells)) (s : State Variables) → ((reply : PlainReply) → fits q.ask reply ≡ true → ReplyWithin reply → Same F (K reply s) (G reply)) →
      Same F ((ask q >>= K) s) (Asks q' G)
  unfolding ask ◌>>=◌ then_do
  asks_same q q' is K G s go = right_is (ap (λ x. Asks x G) (sym is)) (record { alike = (refl, λ reply fit within. (go reply fit within).alike) })

  received_done : (aims : List Aim) (K : Value → doing.Does Variables A) (s : State Variables) → (received aims Done >>= K) s ≡ K (truth true) s
  unfolding received ◌>>=◌ then_do pure
  received_done aims K s = refl

  received_miss : (aims : List Aim) (K : Value → doing.Does Variables A) (s : State Variables) → (received aims Miss >>= K) s ≡ K (truth false) s
  unfolding received ◌>>=◌ then_do pure
  received_miss aims K s = refl

  received_got : (aims : List Aim) (tuple : List Value) (K : Value → doing.Does Variables A) (s : State Variables) → (received aims (Got tuple) >>= K) s ≡ (fill aims tuple >>= (λ _. K (truth true))) s
  unfolding received ◌>>=◌ ◌>>◌ then_do pure
  received_got aims tuple K s = ap (λ d. d s) (in_turn_then (fill aims tuple) (pure (truth true)) K)

  -- ---- `out`

  out_goes : (b number : ℕ) (site : PlainSignature) → Has p b (code.Perform number) → slice_get p.sites number ≡ Some site → HasNoCalls p number site → site.kind ≡ kinds.Out → (all : List ℤ) (aims : List Aim) (ns : List ℤ) → AimsAre layout all site.fields aims ns [] → (K : Value → doing.Does Variables A) (stack : Stack) →
      (s : State Variables) (t : State Cells) → Same F (K (truth true) s) (machine p depth frames (suc b) stack t) → Same F (((ask (request number (Out (Rattle.cl_meaning.specs.Operations.values_of aims))) >>= received aims) >>= K) s) (machine p depth frames b (pushed ns stack) t)
  out_goes b number site h there plainly' kind all aims ns are K stack s t go =
      both (ap (λ d. d s) (in_turn (ask (request number (Out (Rattle.cl_meaning.specs.Operations.values_of aims)))) (received aims) K))
      (performs_request p depth goes frames layout all b number site h there plainly' (ap (λ k. Rattle.cl_code.specs.Machine.may_ask k depth) kind) are stack t)
      (asks_same _ _ (ap (request number) (sym (ap (λ k. sites.asked k (map Rattle.cl_translation.proofs.Requests.to_field aims)) kind ∙ out_asked aims))) (λ reply. received aims reply >>= K) (λ reply. machine p depth frames (suc b) (pushed (sites.told site reply) stack) t) s by)
    where
      none_told : sites.told site Done ≡ []
      none_told = ap (λ k. sites.formals_told site.fields Done ++ sites.answer_told k Done) kind ∙ (append-nil (replicate (sites.formals_in site.fields) (pos 0)) ∙ ap (λ n. replicate n (pos 0)) (formals_count p layout all are))

      done_is : (received aims Done >>= K) s ≡ K (truth true) s
      done_is = received_done aims K s

      by : (reply : PlainReply) → fits (Out (Rattle.cl_meaning.specs.Operations.values_of aims)) reply ≡ true → ReplyWithin reply → Same F ((received aims reply >>= K) s) (machine p depth frames (suc b) (pushed (sites.told site reply) stack) t)
      by Done fit within = both done_is (ap (λ l. machine p depth frames (suc b) (pushed l stack) t) none_told) go
      by (Got tuple) fit within = absurd cc
      by Miss fit within = absurd cc

  -- ---- `in` and `rd`

  in_goes : (b c d number : ℕ) (site : PlainSignature) → Has p b (code.Perform number) → slice_get p.sites number ≡ Some site → HasNoCalls p number site → (verb : Verb) → Waits verb → site.kind ≡ kind_of verb → (ts : List Target) (after : ℕ) → Keeping p (free_cell layout + after) (length ts) (suc b) c → Placing p (free_cell layout + after) ts c d →
      (all : List ℤ) → length all ≡ after → (aims : List Aim) (ns : List ℤ) → AimsAre layout all site.fields aims ns ts → (K : Value → doing.Does Variables A) (stack : Stack) →
      (s : State Variables) (t : State Cells) → Stands bound layout all s t → ((s' : State Variables) (t' : State Cells) → Stands bound layout all s' t' → Same F (K (truth true) s') (machine p depth frames d stack t')) →
      Same F (((ask (request number (asked verb aims)) >>= received aims) >>= K) s) (machine p depth frames b (pushed ns stack) t)
  in_goes b c d number site h there plainly' verb which kind ts after keeps sets all long aims ns are K stack s t r go =
      both (ap (λ e. e s) (in_turn (ask (request number (asked verb aims))) (received aims) K))
      (performs_request p depth goes frames layout all b number site h there plainly' (ap (λ k. may_ask k depth) kind ∙ waits_may depth verb which) are stack t)
      (asks_same _ _ (ap (request number) (sym (ap (λ k. sites.asked k (map to_field aims)) kind ∙ waits_asked aims verb which))) (λ reply. received aims reply >>= K) (λ reply. machine p depth frames (suc b) (pushed (sites.told site reply) stack) t) s by)
    where
      told_is : (tuple : List Value) → sites.told site (Got tuple) ≡ sites.received site.fields tuple
      told_is tuple = ap (λ k. sites.received site.fields tuple ++ sites.answer_told k (Got tuple)) kind ∙ (ap (λ l. sites.received site.fields tuple ++ l) (waits_answers (Got tuple) verb which) ∙ append-nil (sites.received site.fields tuple))

      by : (reply : PlainReply) → fits (asked verb aims) reply ≡ true → ReplyWithin reply → Same F ((received aims reply >>= K) s) (machine p depth frames (suc b) (pushed (sites.told site reply) stack) t)
      by Done fit within = absurd (waits_no_done aims verb which fit)
      by Miss fit within = absurd (waits_no_miss aims verb which fit)
      by (Got tuple) fit within =
          let told = sites.received site.fields tuple in
          let whole = all ++ backwards told in
          let filled = fillings layout whole (more_aims all (backwards told) are) tuple (waits_got aims tuple verb which fit) within in
          both (received_got aims tuple K s) (ap (λ l. machine p depth frames (suc b) (pushed l stack) t) (told_is tuple) ∙ ap (λ l. machine p depth frames (suc b) l t) (pushed_is told stack))
          (keeps_run (backwards told) all (free_cell layout + after) (length ts) (suc b) c (omega (arith, long)) (omega (arith, counted_by whole filled, length_backwards told)) keeps stack _ s t r (λ t' r'.
          sets_run whole all filled [] (ap (λ l. all ++ l) (sym (append-nil (backwards told)))) (free_cell layout + after) (omega (arith, long)) c d sets stack (λ _. K (truth true)) (λ s'' t'' r''. go s'' t'' (scopes.lets_go bound layout all (backwards told) s'' t'' r'')) s t' r'))

  -- ---- `inp` and `rdp`

  inp_goes : (b c d number : ℕ) (site : PlainSignature) → Has p b (code.Perform number) → slice_get p.sites number ≡ Some site → HasNoCalls p number site → (verb : Verb) → MayMiss verb → site.kind ≡ kind_of verb → (ts : List Target) (after : ℕ) → Has p (suc b) (code.StoreLocal (free_cell layout + after)) →
      Keeping p (suc (free_cell layout + after)) (length ts) (suc (suc b)) c → Has p c (code.LoadLocal (free_cell layout + after)) → Has p (suc c) (code.JumpZero d) → Placing p (suc (free_cell layout + after)) ts (suc (suc c)) d → Has p d (code.LoadLocal (free_cell layout + after)) →
      (all : List ℤ) → length all ≡ after → (aims : List Aim) (ns : List ℤ) → AimsAre layout all site.fields aims ns ts → (K : Value → doing.Does Variables A) (stack : Stack) →
      (s : State Variables) (t : State Cells) → Stands bound layout all s t → ((test : Bool) (s' : State Variables) (t' : State Cells) → Stands bound layout all s' t' → Same F (K (truth test) s') (machine p depth frames (suc d) (Rattle.cl_model.specs.Numbers.number (truth test) ∷ stack) t')) →
      Same F (((ask (request number (asked verb aims)) >>= received aims) >>= K) s) (machine p depth frames b (pushed ns stack) t)
  inp_goes b c d number site h there plainly' verb which kind ts after keep keeps answer jump sets last all long aims ns are K stack s t r go =
      both (ap (λ e. e s) (in_turn (ask (request number (asked verb aims))) (received aims) K))
      (performs_request p depth goes frames layout all b number site h there plainly' (ap (λ k. may_ask k depth) kind ∙ misses_may depth verb which) are stack t)
      (asks_same _ _ (ap (request number) (sym (ap (λ k. sites.asked k (map to_field aims)) kind ∙ misses_asked aims verb which))) (λ reply. received aims reply >>= K) (λ reply. machine p depth frames (suc b) (pushed (sites.told site reply) stack) t) s by)
    where
      -- the answer and the formals' values are kept; then the values of a hit are set
      kept : (told : List ℤ) (answer_number : ℤ) → length told ≡ length ts → (P : Steps (A × State Variables)) →
          ((t' : State Cells) → Stands bound layout ((all ++ answer_number ∷ []) ++ backwards told) s t' → Same F P (machine p depth frames c stack t')) → Same F P (machine p depth frames (suc b) (pushed (told ++ answer_number ∷ []) stack) t)
      kept told answer_number same P next =
          right_is (ap (λ l. machine p depth frames (suc b) l t) (pushed_last told answer_number stack))
          (stored p depth A F goes frames (suc b) Local (free_cell layout + after) keep answer_number (pushed told stack) P t (λ room.
          right_is (ap (λ l. machine p depth frames (suc (suc b)) l (scopes.put bound layout all s t r (free_cell layout + after) answer_number)) (pushed_is told stack))
          (keeps_run (backwards told) (all ++ answer_number ∷ []) (suc (free_cell layout + after)) (length ts) (suc (suc b)) c (omega (arith, long, length-append all (answer_number ∷ []))) (omega (arith, same, length_backwards told)) keeps stack P s (scopes.put bound layout all s t r (free_cell layout + after) answer_number)
          (scopes.holds bound layout all s t r (free_cell layout + after) answer_number (omega (arith, long)) room) next)))

      -- the answer lies behind what was held
      answered : (told : List ℤ) (answer_number : ℤ) → slice_get ((all ++ answer_number ∷ []) ++ backwards told) after ≡ Some answer_number
      answered told answer_number = ap (λ l. slice_get l after) (append_assoc all (answer_number ∷ []) (backwards told)) ∙ get_behind all (answer_number ∷ backwards told) after 0 (omega (arith, long))

      loads_answer : (at' : ℕ) → Has p at' (code.LoadLocal (free_cell layout + after)) → (told : List ℤ) (answer_number : ℤ) (s' : State Variables) (t' : State Cells) → Stands bound layout ((all ++ answer_number ∷ []) ++ backwards told) s' t' →
          machine p depth frames at' stack t' ≡ machine p depth frames (suc at') (answer_number ∷ stack) t'
      loads_answer at' is told answer_number s' t' r' = loads_held at' (free_cell layout + after) after answer_number is refl ((all ++ answer_number ∷ []) ++ backwards told) (answered told answer_number) stack s' t' r'

      let_go : (told : List ℤ) (answer_number : ℤ) (s' : State Variables) (t' : State Cells) → Stands bound layout ((all ++ answer_number ∷ []) ++ backwards told) s' t' → Stands bound layout all s' t'
      let_go told answer_number s' t' r' = scopes.lets_go bound layout all (answer_number ∷ []) s' t' (scopes.lets_go bound layout (all ++ answer_number ∷ []) (backwards told) s' t' r')

      told_is : (reply : PlainReply) → sites.told site reply ≡ sites.formals_told site.fields reply ++ sites.hit reply ∷ []
      told_is reply = ap (λ k. sites.formals_told site.fields reply ++ sites.answer_told k reply) kind ∙ ap (λ l. sites.formals_told site.fields reply ++ l) (misses_answers reply verb which)

      length_zeros : (n : ℕ) → length (replicate n (pos 0)) ≡ n
      length_zeros zero = refl
      length_zeros (suc n) = ap suc (length_zeros n)

      by : (reply : PlainReply) → fits (asked verb aims) reply ≡ true → ReplyWithin reply → Same F ((received aims reply >>= K) s) (machine p depth frames (suc b) (pushed (sites.told site reply) stack) t)
      by Done fit within = absurd (misses_no_done aims verb which fit)
      by Miss fit within =
          let told = replicate (sites.formals_in site.fields) (pos 0) in
          both (received_miss aims K s) (ap (λ l. machine p depth frames (suc b) (pushed l stack) t) (told_is Miss))
          (kept told (pos 0) (length_zeros (sites.formals_in site.fields) ∙ formals_count p layout all are) (K (truth false) s) (λ t' r'.
          right_is (loads_answer c answer told (pos 0) s t' r' ∙ (Rattle.cl_translation.proofs.Steps.jumps_zero p depth goes frames (suc c) d jump (pos 0) stack t' ∙ loads_answer d last told (pos 0) s t' r'))
          (go false s t' (let_go told (pos 0) s t' r'))))
      by (Got tuple) fit within =
          let told = sites.received site.fields tuple in
          let whole = (all ++ pos 1 ∷ []) ++ backwards told in
          let filled = fillings layout whole (more_aims (all ++ pos 1 ∷ []) (backwards told) (more_aims all (pos 1 ∷ []) are)) tuple (misses_got aims tuple verb which fit) within in
          both (received_got aims tuple K s) (ap (λ l. machine p depth frames (suc b) (pushed l stack) t) (told_is (Got tuple)))
          (kept told (pos 1) (sym (counted_by whole filled)) ((fill aims tuple >>= (λ _. K (truth true))) s) (λ t' r'.
          right_is (loads_answer c answer told (pos 1) s t' r' ∙ Rattle.cl_translation.proofs.Steps.jumps_zero p depth goes frames (suc c) d jump (pos 1) stack t')
          (sets_run whole (all ++ pos 1 ∷ []) filled [] (ap (λ l. (all ++ pos 1 ∷ []) ++ l) (sym (append-nil (backwards told)))) (suc (free_cell layout + after)) (omega (arith, long, length-append all (pos 1 ∷ []))) (suc (suc c)) d sets stack (λ _. K (truth true)) (λ s'' t'' r''.
          right_is (loads_answer d last told (pos 1) s'' t'' r'') (go true s'' t'' (let_go told (pos 1) s'' t'' r''))) s t' r')))

  -- ---- whole operations

  asked_by : Verb → List Aim → PlainAsk
  asked_by verb aims = asked verb aims

  requested_is : (x : Operation) (verb : Verb) → (out-Operation x).verb ≡ verb → (verb ≡ verbs.Eval → ⊥) → (K : Value → doing.Does Variables A) →
      operation around x >>= K ≡ each_onto [] (map (field_aim around) (out-Operation x).fields) >>= (λ aims. (ask (request (around.site (out-Operation x).span.start) (asked verb aims)) >>= received aims) >>= K)
  unfolding requested
  requested_is x verb is other K =
      ap (λ d. d >>= K) (operation_requests around x (λ e. other (sym is ∙ e)) ∙ ap (λ v. requested (around.site (out-Operation x).span.start) v (map (field_aim around) (out-Operation x).fields)) is)
      ∙ in_turn (each_onto [] (map (field_aim around) (out-Operation x).fields)) (λ aims. ask (request (around.site (out-Operation x).span.start) (asked verb aims)) >>= received aims) K

  module _ (held : List ℤ) (x : Operation) (site : PlainSignature) (there : slice_get p.sites (around.site (out-Operation x).span.start) ≡ Some site) (kind : site.kind ≡ kind_of (out-Operation x).verb) (plainly' : HasNoCalls p (around.site (out-Operation x).span.start) site) where
    -- `out`, `in` and `rd`
    pub asking_runs : (a b c d : ℕ) (ts : List Target) (after : ℕ) → IsAsked (out-Operation x).verb ts → FieldsRun p depth A F goes frames bound layout around held (out-Operation x).fields site.fields ts after a b →
        Has p b (code.Perform (around.site (out-Operation x).span.start)) → Keeping p (free_cell layout + after) (length ts) (suc b) c → Placing p (free_cell layout + after) ts c d →
        (K : Value → doing.Does Variables A) (stack : Stack) → ((s : State Variables) (t : State Cells) → Stands bound layout held s t → Same F (K (truth true) s) (machine p depth frames d stack t)) →
        (s : State Variables) (t : State Cells) → Stands bound layout held s t → Same F ((operation around x >>= K) s) (machine p depth frames a stack t)
    asking_runs a b c d ts after which fields perform keeps sets K stack go s t r = ⊎_elim outs ins which
      where
        back : (all more : List ℤ) → all ≡ held ++ more → (s' : State Variables) (t' : State Cells) → Stands bound layout all s' t' → Same F (K (truth true) s') (machine p depth frames d stack t')
        back all more same s' t' r' = go s' t' (scopes.lets_go bound layout held more s' t' (subst (λ l. Stands bound layout l s' t') same r'))

        no_targets : (us : List Target) → us ≡ [] → Keeping p (free_cell layout + after) (length us) (suc b) c → Placing p (free_cell layout + after) us c d → d ≡ suc b
        no_targets [] none h k = k ∙ h
        no_targets (u ∷ us) none h k = absurd cc

        outs : ((out-Operation x).verb ≡ verbs.Out) × (ts ≡ []) → Same F ((operation around x >>= K) s) (machine p depth frames a stack t)
        outs is =
            left_is (ap (λ e. e s) (requested_is x verbs.Out is.0 (λ e. cc) K))
            (fields (λ aims. (ask (request (around.site (out-Operation x).span.start) (asked verbs.Out aims)) >>= received aims) >>= K) [] stack (λ all more same long aims ns are s' t' r'.
            out_goes b (around.site (out-Operation x).span.start) site perform there plainly' (kind ∙ ap kind_of is.0) all aims ns (subst (λ l. AimsAre layout all site.fields aims ns l) is.1 are) K stack s' t'
            (right_is (ap (λ n. machine p depth frames n stack t') (sym (no_targets ts is.1 keeps sets))) (back all more same s' t' r'))) s t r)

        ins : Waits (out-Operation x).verb → Same F ((operation around x >>= K) s) (machine p depth frames a stack t)
        ins is =
            left_is (ap (λ e. e s) (requested_is x (out-Operation x).verb refl (waits_no_eval (out-Operation x).verb is) K))
            (fields (λ aims. (ask (request (around.site (out-Operation x).span.start) (asked (out-Operation x).verb aims)) >>= received aims) >>= K) [] stack (λ all more same long aims ns are s' t' r'.
            in_goes b c d (around.site (out-Operation x).span.start) site perform there plainly' (out-Operation x).verb is kind ts after keeps sets all long aims ns are K stack s' t' r' (λ s'' t'' r''. back all more same s'' t'' r'')) s t r)

    -- `inp` and `rdp`
    pub trying_runs : (a b c d : ℕ) (ts : List Target) (after : ℕ) → MayMiss (out-Operation x).verb → FieldsRun p depth A F goes frames bound layout around held (out-Operation x).fields site.fields ts after a b → Has p b (code.Perform (around.site (out-Operation x).span.start)) →
        Has p (suc b) (code.StoreLocal (free_cell layout + after)) → Keeping p (suc (free_cell layout + after)) (length ts) (suc (suc b)) c → Has p c (code.LoadLocal (free_cell layout + after)) → Has p (suc c) (code.JumpZero d) → Placing p (suc (free_cell layout + after)) ts (suc (suc c)) d →
        Has p d (code.LoadLocal (free_cell layout + after)) → Evaluates p depth A F frames bound layout held (operation around x) types.Int a (suc d)
    trying_runs a b c d ts after is fields perform keep keeps answer jump sets last K stack k s t r =
        left_is (ap (λ e. e s) (requested_is x (out-Operation x).verb refl (misses_no_eval (out-Operation x).verb is) K))
        (fields (λ aims. (ask (request (around.site (out-Operation x).span.start) (asked (out-Operation x).verb aims)) >>= received aims) >>= K) [] stack (λ all more same long aims ns are s' t' r'.
        inp_goes b c d (around.site (out-Operation x).span.start) site perform there plainly' (out-Operation x).verb is kind ts after keep keeps answer jump sets last all long aims ns are K stack s' t' r' (λ test s'' t'' r''.
        k (truth test) s'' t'' (Rattle.cl_translation.proofs.Values.truth_in test) (scopes.lets_go bound layout held more s'' t'' (subst (λ l. Stands bound layout l s'' t'') same r'')))) s t r)
