-- A step stops exactly at the fault of its bytes.
use Rattle.std.proofs.Common.{◌≡◌, ℕ, ◌≤◌, Bool, true, false, cond, eqb, not, ◌&&◌, ◌||◌, List, [], ◌∷◌, length, Option, Some, None, refl, sym, ap, subst, ◌∙◌, inl, inr}
use Rattle.std.specs.Prelude.{is_some}
use Rattle.std.proofs.lemmas.Bool.{cases_Bool, eqb-true, and_parts, not-true, cond-true, cond-false}
use Rattle.cl_ast.specs.declared.fault.LexKind.{LexKind}
use Rattle.cl_ast.specs.declared.fault.LexKind.TheVariants as faults
use Rattle.cl_ast.specs.declared.mark.Mark.{Mark}
use Rattle.cl_ast.specs.Plain.{PlainToken}
use Rattle.cl_ast.specs.Bytes.{is_separator, is_letter, is_digit, is_line_end, is_space}
use Rattle.cl_ast.specs.Lexemes.{mark_of}
use Rattle.cl_ast.specs.Rows.{after_close}
use Rattle.cl_ast.specs.Ends.{LiteralEnd, NoLiteral, Ends, Fails, literal_end, LineEnd, LineEnds, LineFails, NoLine, line_end}
use Rattle.cl_ast.specs.Faults.{FailsHere, LineFailsSo, IsNoLine, begins_mark, begins_line, begins_nothing, block_of, is_open_block}
use Rattle.cl_token.specs.Scanning.{Goes, Stops, step, literal_step, other_step, line_step, line_step_of, slash_step, block_step, mark_step, mark_step_of, mark_at, one_mark, two_marks}
use Rattle.cl_token.proofs.Laws.{Found}
use Rattle.cl_token.proofs.Bounds.{chosen}
use Rattle.cl_token.proofs.Literals.{NoStart, absent_start, literal_absent, literal_class, literal_right, fails_right, is_literal_fault, is_there, line_right, is_line_fault, line_ends_right}
use Rattle.cl_token.proofs.Sound.{sound}
use Rattle.cl_token.proofs.Complete.{complete}

goes_stops : (ts : List PlainToken) (f : Bool) (r : List ℕ) (kind : LexKind) (bad : List ℕ) → Goes ts f r ≡ Stops kind bad → ⊥
goes_stops ts f r kind bad e = cc

stops_same : (kind kind' : LexKind) (bad bad' : List ℕ) → Stops kind bad ≡ Stops kind' bad' → (kind ≡ kind') × (bad ≡ bad')
stops_same kind kind' bad bad' e = (cc, cc)

-- ---- the step of each kind of byte

pub at_separator : (total : ℕ) (tokens : List PlainToken) (fresh : Bool) (byte : ℕ) (bytes : List ℕ) → is_separator byte ≡ true → step total tokens fresh byte bytes ≡ Goes tokens (is_line_end byte || (fresh && is_space byte)) bytes
unfolding step
at_separator total tokens fresh byte bytes s = cond-true (is_separator byte) _ _ s

pub at_other : (total : ℕ) (tokens : List PlainToken) (fresh : Bool) (byte : ℕ) (bytes : List ℕ) → is_separator byte ≡ false → is_letter byte ≡ false → step total tokens fresh byte bytes ≡ literal_step total tokens fresh byte bytes (literal_end (byte ∷ bytes))
unfolding step
at_other total tokens fresh byte bytes s l = cond-false (is_separator byte) _ _ s ∙ cond-false (is_letter byte) _ _ l

-- a step that stops is at no separator and no letter
record StopsOther (total : ℕ) (tokens : List PlainToken) (fresh : Bool) (byte : ℕ) (bytes : List ℕ) (kind : LexKind) (bad : List ℕ) : Type 0 where
  separator : is_separator byte ≡ false
  letter : is_letter byte ≡ false
  stops : literal_step total tokens fresh byte bytes (literal_end (byte ∷ bytes)) ≡ Stops kind bad

stops_other : (total : ℕ) (tokens : List PlainToken) (fresh : Bool) (byte : ℕ) (bytes : List ℕ) (kind : LexKind) (bad : List ℕ) → step total tokens fresh byte bytes ≡ Stops kind bad → StopsOther total tokens fresh byte bytes kind bad
unfolding step
stops_other total tokens fresh byte bytes kind bad e =
    elim (chosen (is_separator byte) _ _ _ e) [
      | inl t ↦ absurd (goes_stops _ _ _ kind bad t.1)
      | inr f ↦
          elim (chosen (is_letter byte) _ _ _ f.1) [
            | inl t ↦ absurd (goes_stops _ _ _ kind bad t.1)
            | inr g ↦ record { separator = f.0; letter = g.0; stops = g.1 }
          ]
    ]

-- ---- a stop is the fault of the bytes

literal_kind_fails : (kind : LexKind) (fresh : Bool) (bytes bad : List ℕ) → is_literal_fault kind ≡ true → literal_end bytes ≡ Fails kind bad → FailsHere kind fresh bytes bad
literal_kind_fails faults.BadByte fresh bytes bad right e = inl e
literal_kind_fails faults.OpenString fresh bytes bad right e = inl e
literal_kind_fails faults.WideLiteral fresh bytes bad right e = inl e
literal_kind_fails faults.OpenComment fresh bytes bad right e = let f : ◌≡◌ {A = Bool} false true = right in absurd cc
literal_kind_fails faults.BadDirective fresh bytes bad right e = let f : ◌≡◌ {A = Bool} false true = right in absurd cc

line_kind_fails : (kind : LexKind) (fresh : Bool) (bytes bad : List ℕ) → is_line_fault kind ≡ true → LineFailsSo kind fresh bytes bad → FailsHere kind fresh bytes bad
line_kind_fails faults.BadByte fresh bytes bad right e = let f : ◌≡◌ {A = Bool} false true = right in absurd cc
line_kind_fails faults.OpenString fresh bytes bad right e = inr e
line_kind_fails faults.WideLiteral fresh bytes bad right e = inr e
line_kind_fails faults.OpenComment fresh bytes bad right e = inr e
line_kind_fails faults.BadDirective fresh bytes bad right e = let f : ◌≡◌ {A = Bool} false true = right in absurd cc

no_one : (o : Option Mark) (rest : List ℕ) → ◌≡◌ {A = Option (Mark × List ℕ)} (one_mark o rest) None → is_some o ≡ false
no_one None rest e = refl
no_one (Some m) rest e = absurd cc

no_two : (o p : Option Mark) (rest rest' : List ℕ) → ◌≡◌ {A = Option (Mark × List ℕ)} (two_marks o rest (one_mark p rest')) None → (is_some o || is_some p) ≡ false
no_two None p rest rest' e = no_one p rest' e
no_two (Some m) p rest rest' e = absurd cc

no_mark : (bytes : List ℕ) → ◌≡◌ {A = Option (Mark × List ℕ)} (mark_at bytes) None → begins_mark bytes ≡ false
no_mark [] e = refl
no_mark (byte ∷ []) e = no_one (mark_of (byte ∷ [])) [] e
no_mark (byte ∷ next ∷ bytes) e = no_two (mark_of (byte ∷ next ∷ [])) (mark_of (byte ∷ [])) bytes (next ∷ bytes) e

-- a mark's step stops where no mark begins
record StopsMark (bytes : List ℕ) (kind : LexKind) (bad : List ℕ) : Type 0 where
  none : begins_mark bytes ≡ false
  kind_is : faults.BadByte ≡ kind
  bad_is : bytes ≡ bad

mark_of_stops : (total : ℕ) (tokens : List PlainToken) (bytes : List ℕ) (o : Option (Mark × List ℕ)) (kind : LexKind) (bad : List ℕ) → mark_at bytes ≡ o → mark_step_of total tokens bytes o ≡ Stops kind bad → StopsMark bytes kind bad
mark_of_stops total tokens bytes None kind bad at e = let same = stops_same _ _ _ _ e in record { none = no_mark bytes at; kind_is = same.0; bad_is = same.1 }
mark_of_stops total tokens bytes (Some x) kind bad at e = absurd (goes_stops _ _ _ kind bad e)

mark_stops : (total : ℕ) (tokens : List PlainToken) (bytes : List ℕ) (kind : LexKind) (bad : List ℕ) → mark_step total tokens bytes ≡ Stops kind bad → StopsMark bytes kind bad
mark_stops total tokens bytes kind bad e = mark_of_stops total tokens bytes (mark_at bytes) kind bad refl e

-- a byte that begins nothing, piece by piece
nothing_here : (fresh : Bool) (byte : ℕ) (bytes : List ℕ) → is_separator byte ≡ false → is_letter byte ≡ false → NoStart byte → (fresh && eqb byte 35) ≡ false → begins_mark (byte ∷ bytes) ≡ false → begins_nothing fresh (byte ∷ bytes) ≡ true
nothing_here fresh byte bytes sep letter start line mark = rw (sep, letter, start.digit, start.quote, start.double, line, mark) refl

bad_here : (fresh : Bool) (byte : ℕ) (bytes : List ℕ) (kind : LexKind) (bad : List ℕ) → is_separator byte ≡ false → is_letter byte ≡ false → NoStart byte → (fresh && eqb byte 35) ≡ false → StopsMark (byte ∷ bytes) kind bad → FailsHere kind fresh (byte ∷ bytes) bad
bad_here fresh byte bytes kind bad sep letter start line m =
    let fails : FailsHere faults.BadByte fresh (byte ∷ bytes) bad = inr (nothing_here fresh byte bytes sep letter start line m.none, m.bad_is) in
    subst (λ (k : LexKind). FailsHere k fresh (byte ∷ bytes) bad) m.kind_is fails

-- a comment that doesn't end
open_block : (fresh : Bool) (behind : List ℕ) (o : Option (List ℕ)) (kind : LexKind) (bad : List ℕ) (tokens : List PlainToken) → after_close behind ≡ o → block_step tokens (47 ∷ 42 ∷ behind) o ≡ Stops kind bad → FailsHere kind fresh (47 ∷ 42 ∷ behind) bad
open_block fresh behind None kind bad tokens at e =
    let same = stops_same _ _ _ _ e in
    let unclosed : is_open_block (block_of (47 ∷ 42 ∷ behind)) ≡ true = rw at refl in
    let fails : FailsHere faults.OpenComment fresh (47 ∷ 42 ∷ behind) bad = inl (unclosed, same.1) in
    subst (λ (k : LexKind). FailsHere k fresh (47 ∷ 42 ∷ behind) bad) same.0 fails
open_block fresh behind (Some rest) kind bad tokens at e = absurd (goes_stops _ _ _ kind bad e)

slash_stops : (total : ℕ) (tokens : List PlainToken) (fresh : Bool) (bytes : List ℕ) (kind : LexKind) (bad : List ℕ) → NoStart 47 → (fresh && false) ≡ false → slash_step total tokens (47 ∷ bytes) bytes ≡ Stops kind bad → FailsHere kind fresh (47 ∷ bytes) bad
slash_stops total tokens fresh [] kind bad start line e = bad_here fresh 47 [] kind bad refl refl start line (mark_stops total tokens (47 ∷ []) kind bad e)
slash_stops total tokens fresh (next ∷ behind) kind bad start line e =
    elim (chosen (eqb next 47) _ _ _ e) [
      | inl t ↦ absurd (goes_stops _ _ _ kind bad t.1)
      | inr f ↦
          elim (chosen (eqb next 42) _ _ _ f.1) [
            | inl t ↦
                let star : 42 ≡ next = sym (eqb-true next 42 t.0) in
                let e' : block_step tokens (47 ∷ 42 ∷ behind) (after_close behind) ≡ Stops kind bad = subst (λ (b : ℕ). block_step tokens (47 ∷ b ∷ behind) (after_close behind) ≡ Stops kind bad) (sym star) t.1 in
                subst (λ (b : ℕ). FailsHere kind fresh (47 ∷ b ∷ behind) bad) star (open_block fresh behind (after_close behind) kind bad tokens refl e')
            | inr g ↦ bad_here fresh 47 (next ∷ behind) kind bad refl refl start line (mark_stops total tokens (47 ∷ next ∷ behind) kind bad g.1)
          ]
    ]

no_line_fails : (fault : LexKind) (bad : List ℕ) → NoLine ≡ LineFails fault bad → ⊥
no_line_fails fault bad e = cc

-- a line that stops
line_of_stops : (total : ℕ) (tokens : List PlainToken) (bytes : List ℕ) (x : LineEnd) (kind : LexKind) (bad : List ℕ) → length (35 ∷ bytes) ≤ total → line_end bytes ≡ x → step total tokens true 35 bytes ≡ Stops kind bad → line_step_of total tokens (35 ∷ bytes) x ≡ Stops kind bad → FailsHere kind true (35 ∷ bytes) bad
line_of_stops total tokens bytes (LineEnds rest) kind bad within at whole e = absurd (goes_stops _ _ _ kind bad e)
line_of_stops total tokens bytes (LineFails fault bad') kind bad within at whole e =
    let same = stops_same fault kind bad' bad e in
    let right : is_line_fault fault ≡ true = sym (ap line_right at) ∙ line_ends_right bytes in
    let so : LineFailsSo fault true (35 ∷ bytes) bad = record { begins = refl; fails = at ∙ ap (λ (b : List ℕ). LineFails fault b) same.1 } in
    subst (λ (k : LexKind). FailsHere k true (35 ∷ bytes) bad) same.0 (line_kind_fails fault true (35 ∷ bytes) bad right so)
line_of_stops total tokens bytes NoLine kind bad within at whole e =
    let same = stops_same _ _ _ _ e in
    let none : IsNoLine true (35 ∷ bytes) = record {
      begins = refl;
      no_part = λ piece rest first. goes_stops _ _ _ kind bad (sym (complete total tokens true 35 bytes piece rest within first) ∙ whole);
      no_fault = λ fault b so. no_line_fails fault b (sym at ∙ so.fails);
    } in
    let fails : FailsHere faults.BadDirective true (35 ∷ bytes) bad = (none, same.1) in
    subst (λ (k : LexKind). FailsHere k true (35 ∷ bytes) bad) same.0 fails

line_here : (total : ℕ) (tokens : List PlainToken) (fresh : Bool) (byte : ℕ) (bytes : List ℕ) (kind : LexKind) (bad : List ℕ) → byte ≡ 35 → fresh ≡ true → length (byte ∷ bytes) ≤ total → step total tokens fresh byte bytes ≡ Stops kind bad → line_step total tokens (byte ∷ bytes) ≡ Stops kind bad → FailsHere kind fresh (byte ∷ bytes) bad
line_here total tokens fresh byte bytes kind bad is35 is_fresh =
    subst (λ (f : Bool). length (byte ∷ bytes) ≤ total → step total tokens f byte bytes ≡ Stops kind bad → line_step total tokens (byte ∷ bytes) ≡ Stops kind bad → FailsHere kind f (byte ∷ bytes) bad) (sym is_fresh)
    (subst (λ (b : ℕ). length (b ∷ bytes) ≤ total → step total tokens true b bytes ≡ Stops kind bad → line_step total tokens (b ∷ bytes) ≡ Stops kind bad → FailsHere kind true (b ∷ bytes) bad) (sym is35)
    (λ within whole e. line_of_stops total tokens bytes (line_end bytes) kind bad within refl whole e))

slash_here : (total : ℕ) (tokens : List PlainToken) (fresh : Bool) (byte : ℕ) (bytes : List ℕ) (kind : LexKind) (bad : List ℕ) → byte ≡ 47 → NoStart byte → (fresh && eqb byte 35) ≡ false → slash_step total tokens (byte ∷ bytes) bytes ≡ Stops kind bad → FailsHere kind fresh (byte ∷ bytes) bad
slash_here total tokens fresh byte bytes kind bad is47 =
    subst (λ (b : ℕ). NoStart b → (fresh && eqb b 35) ≡ false → slash_step total tokens (b ∷ bytes) bytes ≡ Stops kind bad → FailsHere kind fresh (b ∷ bytes) bad) (sym is47)
    (λ start line e. slash_stops total tokens fresh bytes kind bad start line e)

other_stops : (total : ℕ) (tokens : List PlainToken) (fresh : Bool) (byte : ℕ) (bytes : List ℕ) (kind : LexKind) (bad : List ℕ) → length (byte ∷ bytes) ≤ total → step total tokens fresh byte bytes ≡ Stops kind bad → is_separator byte ≡ false → is_letter byte ≡ false → NoStart byte → other_step total tokens fresh byte bytes ≡ Stops kind bad → FailsHere kind fresh (byte ∷ bytes) bad
other_stops total tokens fresh byte bytes kind bad within whole sep letter start e =
    elim (chosen (fresh && eqb byte 35) _ _ _ e) [
      | inl t ↦
          let both = and_parts fresh (eqb byte 35) t.0 in
          line_here total tokens fresh byte bytes kind bad (eqb-true byte 35 both.1) both.0 within whole t.1
      | inr f ↦
          elim (chosen (eqb byte 47) _ _ _ f.1) [
            | inl t ↦ slash_here total tokens fresh byte bytes kind bad (eqb-true byte 47 t.0) start f.0 t.1
            | inr g ↦ bad_here fresh byte bytes kind bad sep letter start f.0 (mark_stops total tokens (byte ∷ bytes) kind bad g.1)
          ]
    ]

literal_stops : (total : ℕ) (tokens : List PlainToken) (fresh : Bool) (byte : ℕ) (bytes : List ℕ) (kind : LexKind) (bad : List ℕ) (x : LiteralEnd) → length (byte ∷ bytes) ≤ total → step total tokens fresh byte bytes ≡ Stops kind bad → is_separator byte ≡ false → is_letter byte ≡ false → literal_end (byte ∷ bytes) ≡ x → literal_step total tokens fresh byte bytes x ≡ Stops kind bad → FailsHere kind fresh (byte ∷ bytes) bad
literal_stops total tokens fresh byte bytes kind bad NoLiteral within whole sep letter at e = other_stops total tokens fresh byte bytes kind bad within whole sep letter (absent_start byte bytes at) e
literal_stops total tokens fresh byte bytes kind bad (Ends k rest) within whole sep letter at e = absurd (goes_stops _ _ _ kind bad e)
literal_stops total tokens fresh byte bytes kind bad (Fails fault bad') within whole sep letter at e =
    let same = stops_same fault kind bad' bad e in
    let right : is_literal_fault fault ≡ true = sym (ap fails_right at) ∙ literal_right (byte ∷ bytes) in
    let fails : FailsHere fault fresh (byte ∷ bytes) bad = literal_kind_fails fault fresh (byte ∷ bytes) bad right (at ∙ ap (λ (b : List ℕ). Fails fault b) same.1) in
    subst (λ (k : LexKind). FailsHere k fresh (byte ∷ bytes) bad) same.0 fails

pub fails_sound : (total : ℕ) (tokens : List PlainToken) (fresh : Bool) (byte : ℕ) (bytes : List ℕ) (kind : LexKind) (bad : List ℕ) → length (byte ∷ bytes) ≤ total → step total tokens fresh byte bytes ≡ Stops kind bad → FailsHere kind fresh (byte ∷ bytes) bad
fails_sound total tokens fresh byte bytes kind bad within e =
    let o : StopsOther total tokens fresh byte bytes kind bad = stops_other total tokens fresh byte bytes kind bad e in
    literal_stops total tokens fresh byte bytes kind bad (literal_end (byte ∷ bytes)) within e o.separator o.letter refl o.stops

-- ---- the fault of the bytes is a stop

not_fresh : (fresh : Bool) → begins_line fresh [] ≡ true → ⊥
not_fresh true e = cc
not_fresh false e = cc

pub nothing_fails : (kind : LexKind) (fresh : Bool) (bad : List ℕ) → FailsHere kind fresh [] bad → ⊥
nothing_fails faults.BadByte fresh bad (inl e) = absurd cc
nothing_fails faults.BadByte fresh bad (inr e) = let f : ◌≡◌ {A = Bool} false true = e.0 in absurd cc
nothing_fails faults.OpenString fresh bad (inl e) = absurd cc
nothing_fails faults.OpenString fresh bad (inr e) = not_fresh fresh e.begins
nothing_fails faults.OpenComment fresh bad (inl e) = let f : ◌≡◌ {A = Bool} false true = e.0 in absurd cc
nothing_fails faults.OpenComment fresh bad (inr e) = not_fresh fresh e.begins
nothing_fails faults.WideLiteral fresh bad (inl e) = absurd cc
nothing_fails faults.WideLiteral fresh bad (inr e) = not_fresh fresh e.begins
nothing_fails faults.BadDirective fresh bad e = not_fresh fresh e.0.begins

literal_fails : (total : ℕ) (tokens : List PlainToken) (fresh : Bool) (byte : ℕ) (bytes : List ℕ) (kind : LexKind) (bad : List ℕ) → literal_end (byte ∷ bytes) ≡ Fails kind bad → step total tokens fresh byte bytes ≡ Stops kind bad
literal_fails total tokens fresh byte bytes kind bad e =
    let there : is_there (literal_end (byte ∷ bytes)) ≡ true = ap is_there e in
    let c = literal_class byte bytes there in
    at_other total tokens fresh byte bytes c.0 c.1 ∙ ap (λ (x : LiteralEnd). literal_step total tokens fresh byte bytes x) e

line_steps_at : (total : ℕ) (tokens : List PlainToken) (fresh : Bool) (byte : ℕ) (bytes : List ℕ) (x : LineEnd) → byte ≡ 35 → fresh ≡ true → line_end bytes ≡ x → step total tokens fresh byte bytes ≡ line_step_of total tokens (byte ∷ bytes) x
line_steps_at total tokens fresh byte bytes x is35 is_fresh e =
    subst (λ (f : Bool). step total tokens f byte bytes ≡ line_step_of total tokens (byte ∷ bytes) x) (sym is_fresh)
    (subst (λ (b : ℕ). step total tokens true b bytes ≡ line_step_of total tokens (b ∷ bytes) x) (sym is35)
    (at_other total tokens true 35 bytes refl refl ∙ ap (λ (y : LineEnd). line_step_of total tokens (35 ∷ bytes) y) e))

-- a line's step
line_steps : (total : ℕ) (tokens : List PlainToken) (fresh : Bool) (byte : ℕ) (bytes : List ℕ) (x : LineEnd) → begins_line fresh (byte ∷ bytes) ≡ true → line_end bytes ≡ x → step total tokens fresh byte bytes ≡ line_step_of total tokens (byte ∷ bytes) x
line_steps total tokens fresh byte bytes x begins e =
    let both = and_parts fresh (eqb byte 35) begins in
    line_steps_at total tokens fresh byte bytes x (eqb-true byte 35 both.1) both.0 e

line_fails : (total : ℕ) (tokens : List PlainToken) (fresh : Bool) (byte : ℕ) (bytes : List ℕ) (kind : LexKind) (bad : List ℕ) → LineFailsSo kind fresh (byte ∷ bytes) bad → step total tokens fresh byte bytes ≡ Stops kind bad
line_fails total tokens fresh byte bytes kind bad so = line_steps total tokens fresh byte bytes (LineFails kind bad) so.begins so.fails

one_absent : (o : Option Mark) (rest : List ℕ) → is_some o ≡ false → ◌≡◌ {A = Option (Mark × List ℕ)} (one_mark o rest) None
one_absent None rest e = refl
one_absent (Some m) rest e = let f : ◌≡◌ {A = Bool} true false = e in absurd cc

two_absent : (o p : Option Mark) (rest rest' : List ℕ) → (is_some o || is_some p) ≡ false → ◌≡◌ {A = Option (Mark × List ℕ)} (two_marks o rest (one_mark p rest')) None
two_absent None p rest rest' e = one_absent p rest' e
two_absent (Some m) p rest rest' e = let f : ◌≡◌ {A = Bool} true false = e in absurd cc

slash_or : (b : Bool) → (b || true) ≡ false → ⊥
slash_or true e = cc
slash_or false e = cc

mark_absent : (bytes : List ℕ) → begins_mark bytes ≡ false → ◌≡◌ {A = Option (Mark × List ℕ)} (mark_at bytes) None
mark_absent [] e = refl
mark_absent (byte ∷ []) e = one_absent (mark_of (byte ∷ [])) [] e
mark_absent (byte ∷ next ∷ bytes) e = two_absent (mark_of (byte ∷ next ∷ [])) (mark_of (byte ∷ [])) bytes (next ∷ bytes) e

-- `/` is a mark
slash_marks : (bytes : List ℕ) → begins_mark (47 ∷ bytes) ≡ false → ⊥
unfolding mark_of
slash_marks [] e = let f : ◌≡◌ {A = Bool} true false = e in cc
slash_marks (next ∷ bytes) e = slash_or (is_some (mark_of (47 ∷ next ∷ []))) e

no_slash : (byte : ℕ) (bytes : List ℕ) → begins_mark (byte ∷ bytes) ≡ false → eqb byte 47 ≡ false
no_slash byte bytes e =
    elim (cases_Bool (eqb byte 47)) [
      | inl t ↦ absurd (slash_marks bytes (subst (λ (b : ℕ). begins_mark (b ∷ bytes) ≡ false) (eqb-true byte 47 t) e))
      | inr f ↦ f
    ]

nothing_stops : (total : ℕ) (tokens : List PlainToken) (fresh : Bool) (byte : ℕ) (bytes : List ℕ) → begins_nothing fresh (byte ∷ bytes) ≡ true → step total tokens fresh byte bytes ≡ Stops faults.BadByte (byte ∷ bytes)
nothing_stops total tokens fresh byte bytes e =
    let a = and_parts (not (is_separator byte)) _ e in
    let b = and_parts (not (is_letter byte)) _ a.1 in
    let c = and_parts (not (is_digit byte)) _ b.1 in
    let d = and_parts (not (eqb byte 39)) _ c.1 in
    let f = and_parts (not (eqb byte 34)) _ d.1 in
    let g = and_parts (not (begins_line fresh (byte ∷ bytes))) (not (begins_mark (byte ∷ bytes))) f.1 in
    let absent = literal_absent byte bytes (not-true (is_digit byte) c.0) (not-true (eqb byte 39) d.0) (not-true (eqb byte 34) f.0) in
    let mark = not-true (begins_mark (byte ∷ bytes)) g.1 in
    at_other total tokens fresh byte bytes (not-true (is_separator byte) a.0) (not-true (is_letter byte) b.0)
    ∙ (ap (λ (x : LiteralEnd). literal_step total tokens fresh byte bytes x) absent
    ∙ (cond-false (fresh && eqb byte 35) _ _ (not-true (begins_line fresh (byte ∷ bytes)) g.0)
    ∙ (cond-false (eqb byte 47) _ _ (no_slash byte bytes mark)
    ∙ ap (λ (o : Option (Mark × List ℕ)). mark_step_of total tokens (byte ∷ bytes) o) (mark_absent (byte ∷ bytes) mark))))

block_absent : (o : Option (List ℕ)) (tokens : List PlainToken) (bytes : List ℕ) → is_some o ≡ false → block_step tokens bytes o ≡ Stops faults.OpenComment bytes
block_absent None tokens bytes e = refl
block_absent (Some rest) tokens bytes e = let f : ◌≡◌ {A = Bool} true false = e in absurd cc

block_at : (total : ℕ) (tokens : List PlainToken) (fresh : Bool) (bytes : List ℕ) → step total tokens fresh 47 (42 ∷ bytes) ≡ block_step tokens (47 ∷ 42 ∷ bytes) (after_close bytes)
block_at total tokens true bytes = at_other total tokens true 47 (42 ∷ bytes) refl refl
block_at total tokens false bytes = at_other total tokens false 47 (42 ∷ bytes) refl refl

block_fails_at : (total : ℕ) (tokens : List PlainToken) (fresh : Bool) (byte next : ℕ) (bytes : List ℕ) → byte ≡ 47 → next ≡ 42 → is_some (after_close bytes) ≡ false → step total tokens fresh byte (next ∷ bytes) ≡ Stops faults.OpenComment (byte ∷ next ∷ bytes)
block_fails_at total tokens fresh byte next bytes a b e =
    subst (λ (x : ℕ). step total tokens fresh x (next ∷ bytes) ≡ Stops faults.OpenComment (x ∷ next ∷ bytes)) (sym a)
    (subst (λ (y : ℕ). step total tokens fresh 47 (y ∷ bytes) ≡ Stops faults.OpenComment (47 ∷ y ∷ bytes)) (sym b)
    (block_at total tokens fresh bytes ∙ block_absent (after_close bytes) tokens (47 ∷ 42 ∷ bytes) e))

open_if : (b : Bool) (bytes : List ℕ) → is_open_block (cond b (Some bytes) None) ≡ true → (b ≡ true) × (not (is_some (after_close bytes)) ≡ true)
open_if true bytes e = (refl, e)
open_if false bytes e = let f : ◌≡◌ {A = Bool} false true = e in absurd cc

block_fails : (total : ℕ) (tokens : List PlainToken) (fresh : Bool) (byte : ℕ) (bytes : List ℕ) → is_open_block (block_of (byte ∷ bytes)) ≡ true → step total tokens fresh byte bytes ≡ Stops faults.OpenComment (byte ∷ bytes)
block_fails total tokens fresh byte [] e = let f : ◌≡◌ {A = Bool} false true = e in absurd cc
block_fails total tokens fresh byte (next ∷ bytes) e =
    let o = open_if (eqb byte 47 && eqb next 42) bytes e in
    let both = and_parts (eqb byte 47) (eqb next 42) o.0 in
    block_fails_at total tokens fresh byte next bytes (eqb-true byte 47 both.0) (eqb-true next 42 both.1) (not-true (is_some (after_close bytes)) o.1)

no_line_stops : (total : ℕ) (tokens : List PlainToken) (fresh : Bool) (byte : ℕ) (bytes : List ℕ) (x : LineEnd) → length (byte ∷ bytes) ≤ total → IsNoLine fresh (byte ∷ bytes) → line_end bytes ≡ x → step total tokens fresh byte bytes ≡ Stops faults.BadDirective (byte ∷ bytes)
no_line_stops total tokens fresh byte bytes (LineEnds rest) within none e =
    let goes = line_steps total tokens fresh byte bytes (LineEnds rest) none.begins e in
    let f : Found total tokens fresh (byte ∷ bytes) _ _ rest = sound total tokens fresh byte bytes _ _ rest within goes in
    absurd (none.no_part f.piece rest f.first)
no_line_stops total tokens fresh byte bytes (LineFails fault bad) within none e = absurd (none.no_fault fault bad (record { begins = none.begins; fails = e }))
no_line_stops total tokens fresh byte bytes NoLine within none e = line_steps total tokens fresh byte bytes NoLine none.begins e

pub fails_complete : (total : ℕ) (tokens : List PlainToken) (fresh : Bool) (byte : ℕ) (bytes : List ℕ) (kind : LexKind) (bad : List ℕ) → length (byte ∷ bytes) ≤ total → FailsHere kind fresh (byte ∷ bytes) bad → step total tokens fresh byte bytes ≡ Stops kind bad
fails_complete total tokens fresh byte bytes faults.BadByte bad within (inl e) = literal_fails total tokens fresh byte bytes faults.BadByte bad e
fails_complete total tokens fresh byte bytes faults.BadByte bad within (inr e) = nothing_stops total tokens fresh byte bytes e.0 ∙ ap (λ (b : List ℕ). Stops faults.BadByte b) e.1
fails_complete total tokens fresh byte bytes faults.OpenString bad within (inl e) = literal_fails total tokens fresh byte bytes faults.OpenString bad e
fails_complete total tokens fresh byte bytes faults.OpenString bad within (inr e) = line_fails total tokens fresh byte bytes faults.OpenString bad e
fails_complete total tokens fresh byte bytes faults.OpenComment bad within (inl e) = block_fails total tokens fresh byte bytes e.0 ∙ ap (λ (b : List ℕ). Stops faults.OpenComment b) e.1
fails_complete total tokens fresh byte bytes faults.OpenComment bad within (inr e) = line_fails total tokens fresh byte bytes faults.OpenComment bad e
fails_complete total tokens fresh byte bytes faults.WideLiteral bad within (inl e) = literal_fails total tokens fresh byte bytes faults.WideLiteral bad e
fails_complete total tokens fresh byte bytes faults.WideLiteral bad within (inr e) = line_fails total tokens fresh byte bytes faults.WideLiteral bad e
fails_complete total tokens fresh byte bytes faults.BadDirective bad within e = no_line_stops total tokens fresh byte bytes (line_end bytes) within e.0 refl ∙ ap (λ (b : List ℕ). Stops faults.BadDirective b) e.1
