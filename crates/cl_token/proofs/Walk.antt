-- Parts one after another: where they lead, their tokens, and that there is one way.
use Rattle.std.proofs.Common.{◌≡◌, ℕ, ◌+◌, ◌-◌, ◌≤◌, Bool, true, List, [], ◌∷◌, ◌++◌, length, refl, sym, ap, subst, ◌∙◌, append_assoc, arith, length-append, add-zero}
use Rattle.std.specs.Prelude.{Err}
use Rattle.std.proofs.lemmas.List.{append-nil}
use Rattle.cl_ast.specs.declared.fault.LexKind.{LexKind}
use Rattle.cl_ast.specs.Plain.{PlainToken}
use Rattle.cl_ast.specs.Pieces.{Piece, piece_spelling, piece_tokens, fresh_behind}
use Rattle.cl_ast.specs.Splits.{IsFirst, Leads, tokens_of, Splits}
use Rattle.cl_ast.specs.Faults.{FailsHere, IsFaultAt}
use Rattle.cl_token.specs.Lexing.{OneFault, IsFirstFault, TellsEnd, TellsFault, IsOnly}
use Rattle.cl_token.specs.Steps.{StopsSo}
use Rattle.cl_token.specs.declared.stop.Stop.{Stop}
use Rattle.cl_token.specs.declared.stop.Stop.TheVariants as stops
use Rattle.cl_token.specs.declared.lexer.LexEnd.{LexEnd}
use Rattle.cl_token.specs.declared.lexer.LexEnd.TheVariants as ends
use Rattle.cl_token.specs.Scanning.{Goes, Stops, step, step_at}
use Rattle.cl_token.proofs.Laws.{Found}
use Rattle.cl_token.proofs.Sound.{sound}
use Rattle.cl_token.proofs.Complete.{complete}
use Rattle.cl_token.proofs.Failing.{fails_sound, fails_complete, nothing_fails}
use Rattle.cl_token.proofs.Pieces.{never_empty, few_tokens}
use Rattle.cl_token.proofs.Scanned.{scanned, fails_within}
use Rattle.cl_token.proofs.Ways.{spelling_of, spelled}

-- ---- the parts so far

-- parts lead to a place of the source, and these are their tokens
pub record Reached (source : List ℕ) (fresh : Bool) (rest : List ℕ) (tokens : List PlainToken) : Type 0 where
  pub pieces : List Piece
  pub leads : Leads true source pieces fresh rest
  pub tokens_are : tokens ≡ tokens_of 0 pieces

pub leads_on : (ps : List Piece) (fresh fresh' : Bool) (bytes mid : List ℕ) (p : Piece) (rest : List ℕ) → Leads fresh bytes ps fresh' mid → IsFirst fresh' mid p rest → Leads fresh bytes (ps ++ p ∷ []) (fresh_behind fresh' p) rest
leads_on [] fresh fresh' bytes mid p rest l first = rw (l.0, l.1) (rest, first, (refl, refl))
leads_on (q ∷ ps) fresh fresh' bytes mid p rest l first = (l.0, l.1, leads_on ps (fresh_behind fresh q) fresh' l.0 mid p rest l.2 first)

tokens_on : (start : ℕ) (ps : List Piece) (p : Piece) → tokens_of start (ps ++ p ∷ []) ≡ tokens_of start ps ++ piece_tokens (start + length (spelling_of ps)) p
tokens_on start [] p = append-nil (piece_tokens start p) ∙ ap (λ (n : ℕ). piece_tokens n p) (sym (add-zero start))
tokens_on start (q ∷ ps) p =
    let more = tokens_on (start + length (piece_spelling q)) ps p in
    let moved : start + length (piece_spelling q) + length (spelling_of ps) ≡ start + length (piece_spelling q ++ spelling_of ps) = simp length-append (omega arith) in
    ap (λ (ts : List PlainToken). piece_tokens start q ++ ts) (more ∙ ap (λ (n : ℕ). tokens_of (start + length (piece_spelling q)) ps ++ piece_tokens n p) moved)
    ∙ sym (append_assoc (piece_tokens start q) (tokens_of (start + length (piece_spelling q)) ps) (piece_tokens (start + length (piece_spelling q ++ spelling_of ps)) p))

-- how far parts lead
far : (source : List ℕ) (ps : List Piece) (fresh fresh' : Bool) (rest : List ℕ) → Leads fresh source ps fresh' rest → length source ≡ length (spelling_of ps) + length rest
far source ps fresh fresh' rest l = ap length (spelled ps fresh fresh' source rest l) ∙ simp length-append

reaches_found : (source : List ℕ) (fresh : Bool) (bytes : List ℕ) (tokens : List PlainToken) (tokens' : List PlainToken) (fresh' : Bool) (rest : List ℕ) → Reached source fresh bytes tokens → Found (length source) tokens fresh bytes tokens' fresh' rest → Reached source fresh' rest tokens'
reaches_found source fresh bytes tokens tokens' fresh' rest r f =
    let l = far source r.pieces true fresh bytes r.leads in
    let at : length source - length bytes ≡ 0 + length (spelling_of r.pieces) = omega (arith, l) in
    let on : Leads true source (r.pieces ++ f.piece ∷ []) (fresh_behind fresh f.piece) rest = leads_on r.pieces true fresh source bytes f.piece rest r.leads f.first in
    record {
      pieces = r.pieces ++ f.piece ∷ [];
      leads = subst (λ (x : Bool). Leads true source (r.pieces ++ f.piece ∷ []) x rest) (sym f.fresh_is) on;
      tokens_are = f.tokens_are ∙ (ap (λ (ts : List PlainToken). ts ++ piece_tokens (length source - length bytes) f.piece) r.tokens_are ∙ (ap (λ (n : ℕ). tokens_of 0 r.pieces ++ piece_tokens n f.piece) at ∙ sym (tokens_on 0 r.pieces f.piece)));
    }

pub reaches_on : (source : List ℕ) (fresh : Bool) (byte : ℕ) (bytes : List ℕ) (tokens : List PlainToken) (tokens' : List PlainToken) (fresh' : Bool) (rest : List ℕ) → Reached source fresh (byte ∷ bytes) tokens → step (length source) tokens fresh byte bytes ≡ Goes tokens' fresh' rest → Reached source fresh' rest tokens'
reaches_on source fresh byte bytes tokens tokens' fresh' rest r e =
    let l = far source r.pieces true fresh (byte ∷ bytes) r.leads in
    reaches_found source fresh (byte ∷ bytes) tokens tokens' fresh' rest r (sound (length source) tokens fresh byte bytes tokens' fresh' rest (omega (arith, l)) e)

-- at the end of the source its tokens are all there
pub all_reached : (source : List ℕ) (fresh : Bool) (rest : List ℕ) (tokens tokens' : List PlainToken) → Reached source fresh rest tokens → (rest ≡ []) × (tokens' ≡ tokens) → Splits source tokens'
all_reached source fresh rest tokens tokens' r e = record { pieces = r.pieces; fresh = fresh; leads = subst (λ (x : List ℕ). Leads true source r.pieces fresh x) e.0 r.leads; tokens_are = e.1 ∙ r.tokens_are }

-- ---- steps that are the same

goes_same : (ts ts' : List PlainToken) (f f' : Bool) (r r' : List ℕ) → Goes ts f r ≡ Goes ts' f' r' → (ts ≡ ts') × ((f ≡ f') × (r ≡ r'))
goes_same ts ts' f f' r r' e = (cc, (cc, cc))

goes_stops : (ts : List PlainToken) (f : Bool) (r : List ℕ) (kind : LexKind) (bad : List ℕ) → Goes ts f r ≡ Stops kind bad → ⊥
goes_stops ts f r kind bad e = cc

stops_same : (kind kind' : LexKind) (bad bad' : List ℕ) → Stops kind bad ≡ Stops kind' bad' → (kind ≡ kind') × (bad ≡ bad')
stops_same kind kind' bad bad' e = (cc, cc)

-- ---- two parts at one place

-- a part has at least one byte
no_first : (fresh : Bool) (p : Piece) (rest : List ℕ) → IsFirst fresh [] p rest → ⊥
no_first fresh p rest first = never_empty fresh p rest first.form (sym first.whole)

-- two parts that stand at the front are alike
record Alike (total : ℕ) (fresh : Bool) (bytes : List ℕ) (p q : Piece) (r s : List ℕ) : Type 0 where
  rests : r ≡ s
  freshes : fresh_behind fresh p ≡ fresh_behind fresh q
  tokens : piece_tokens (total - length bytes) p ≡ piece_tokens (total - length bytes) q
  lengths : length (piece_spelling p) ≡ length (piece_spelling q)
  within : length (piece_spelling p) + length r ≡ length bytes

far_first : (fresh : Bool) (bytes : List ℕ) (p : Piece) (rest : List ℕ) → IsFirst fresh bytes p rest → length (piece_spelling p) + length rest ≡ length bytes
far_first fresh bytes p rest first = sym (ap length first.whole ∙ simp length-append)

alike : (total : ℕ) (fresh : Bool) (bytes : List ℕ) (p q : Piece) (r s : List ℕ) → length bytes ≤ total → IsFirst fresh bytes p r → IsFirst fresh bytes q s → Alike total fresh bytes p q r s
alike total fresh [] p q r s within a b = absurd (no_first fresh p r a)
alike total fresh (byte ∷ bytes) p q r s within a b =
    let same = goes_same _ _ _ _ _ _ (sym (complete total [] fresh byte bytes p r within a) ∙ complete total [] fresh byte bytes q s within b) in
    let l = far_first fresh (byte ∷ bytes) p r a in
    let m = far_first fresh (byte ∷ bytes) q s b in
    let n : length r ≡ length s = ap length same.1.1 in
    record { rests = same.1.1; freshes = same.1.0; tokens = same.0; lengths = omega (arith, l, m, n); within = l }

-- ---- one way

-- a way from a place that is the same
moved : (f f' : Bool) (bytes bytes' : List ℕ) (ps : List Piece) (g : Bool) (rest : List ℕ) → f' ≡ f → bytes' ≡ bytes → Leads f bytes ps g rest → Leads f' bytes' ps g rest
moved f f' bytes bytes' ps g rest same same' l = subst (λ (x : List ℕ). Leads f' x ps g rest) (sym same') (subst (λ (x : Bool). Leads x bytes ps g rest) (sym same) l)

-- a fault at a place that is the same
carried : (kind : LexKind) (f f' : Bool) (bytes bytes' bad : List ℕ) → f ≡ f' → bytes ≡ bytes' → FailsHere kind f' bytes' bad → FailsHere kind f bytes bad
carried kind f f' bytes bytes' bad same same' fails = subst (λ (x : List ℕ). FailsHere kind f x bad) (sym same') (subst (λ (x : Bool). FailsHere kind x bytes' bad) (sym same) fails)

-- two ways from one place to the end have the same tokens
pub one_way : (ps qs : List Piece) (total : ℕ) (fresh f g : Bool) (bytes : List ℕ) → length bytes ≤ total → Leads fresh bytes ps f [] → Leads fresh bytes qs g [] → tokens_of (total - length bytes) ps ≡ tokens_of (total - length bytes) qs
one_way [] [] total fresh f g bytes within l m = refl
one_way [] (q ∷ qs) total fresh f g bytes within l m = absurd (no_first fresh q m.0 (subst (λ (x : List ℕ). IsFirst fresh x q m.0) l.1 m.1))
one_way (p ∷ ps) [] total fresh f g bytes within l m = absurd (no_first fresh p l.0 (subst (λ (x : List ℕ). IsFirst fresh x p l.0) m.1 l.1))
one_way (p ∷ ps) (q ∷ qs) total fresh f g bytes within l m =
    let a : Alike total fresh bytes p q l.0 m.0 = alike total fresh bytes p q l.0 m.0 within l.1 m.1 in
    let on : Leads (fresh_behind fresh p) l.0 qs g [] = moved (fresh_behind fresh q) (fresh_behind fresh p) m.0 l.0 qs g [] a.freshes a.rests m.2 in
    let few : length l.0 ≤ total = omega (arith, a.within) in
    let more = one_way ps qs total (fresh_behind fresh p) f g l.0 few l.2 on in
    let at : total - length bytes + length (piece_spelling p) ≡ total - length l.0 = omega (arith, a.within, within) in
    let at' : total - length l.0 ≡ total - length bytes + length (piece_spelling q) = omega (arith, a.within, a.lengths, within) in
    let tail : tokens_of (total - length bytes + length (piece_spelling p)) ps ≡ tokens_of (total - length bytes + length (piece_spelling q)) qs =
    ap (λ (n : ℕ). tokens_of n ps) at ∙ (more ∙ ap (λ (n : ℕ). tokens_of n qs) at') in
    ap (λ (ts : List PlainToken). ts ++ tokens_of (total - length bytes + length (piece_spelling p)) ps) a.tokens ∙ ap (λ (ts : List PlainToken). piece_tokens (total - length bytes) q ++ ts) tail

pub only : (source : List ℕ) (ts us : List PlainToken) → Splits source ts → Splits source us → ts ≡ us
only source ts us a b =
    let e = one_way a.pieces b.pieces (length source) true a.fresh b.fresh source (omega arith) a.leads b.leads in
    let zero : length source - length source ≡ 0 = omega arith in
    a.tokens_are ∙ (ap (λ (n : ℕ). tokens_of n a.pieces) (sym zero) ∙ (e ∙ (ap (λ (n : ℕ). tokens_of n b.pieces) zero ∙ sym b.tokens_are)))

-- ---- a fault ends every way

-- where a part begins, nothing fails
apart : (kind : LexKind) (fresh : Bool) (bytes bad : List ℕ) (p : Piece) (rest : List ℕ) → FailsHere kind fresh bytes bad → IsFirst fresh bytes p rest → ⊥
apart kind fresh [] bad p rest fails first = nothing_fails kind fresh bad fails
apart kind fresh (byte ∷ bytes) bad p rest fails first =
    let total = length (byte ∷ bytes) in
    goes_stops _ _ _ kind bad (sym (complete total [] fresh byte bytes p rest (omega arith) first) ∙ fails_complete total [] fresh byte bytes kind bad (omega arith) fails)

-- a way to the end and one to a fault
pub no_way : (ps qs : List Piece) (fresh f g : Bool) (bytes there bad : List ℕ) (kind : LexKind) → Leads fresh bytes ps f [] → Leads fresh bytes qs g there → FailsHere kind g there bad → ⊥
no_way [] [] fresh f g bytes there bad kind l m fails = nothing_fails kind g bad (subst (λ (x : List ℕ). FailsHere kind g x bad) (sym m.1 ∙ l.1) fails)
no_way [] (q ∷ qs) fresh f g bytes there bad kind l m fails = no_first fresh q m.0 (subst (λ (x : List ℕ). IsFirst fresh x q m.0) l.1 m.1)
no_way (p ∷ ps) [] fresh f g bytes there bad kind l m fails = apart kind fresh bytes bad p l.0 (carried kind fresh g bytes there bad m.0 m.1 fails) l.1
no_way (p ∷ ps) (q ∷ qs) fresh f g bytes there bad kind l m fails =
    let a : Alike (length bytes) fresh bytes p q l.0 m.0 = alike (length bytes) fresh bytes p q l.0 m.0 (omega arith) l.1 m.1 in
    no_way ps qs (fresh_behind fresh p) f g l.0 there bad kind l.2 (moved (fresh_behind fresh q) (fresh_behind fresh p) m.0 l.0 qs g there a.freshes a.rests m.2) fails

-- faults at one place are one
one_here : (kind kind' : LexKind) (fresh : Bool) (bytes bad bad' : List ℕ) → FailsHere kind fresh bytes bad → FailsHere kind' fresh bytes bad' → (kind ≡ kind') × (bad ≡ bad')
one_here kind kind' fresh [] bad bad' a b = absurd (nothing_fails kind fresh bad a)
one_here kind kind' fresh (byte ∷ bytes) bad bad' a b =
    let total = length (byte ∷ bytes) in
    stops_same kind kind' bad bad' (sym (fails_complete total [] fresh byte bytes kind bad (omega arith) a) ∙ fails_complete total [] fresh byte bytes kind' bad' (omega arith) b)

one_fault_on : (ps qs : List Piece) (fresh f g : Bool) (bytes here there bad bad' : List ℕ) (kind kind' : LexKind) → Leads fresh bytes ps f here → FailsHere kind f here bad → Leads fresh bytes qs g there → FailsHere kind' g there bad' → (kind ≡ kind') × (bad ≡ bad')
one_fault_on [] [] fresh f g bytes here there bad bad' kind kind' l a m b =
    one_here kind kind' fresh bytes bad bad' (carried kind fresh f bytes here bad l.0 l.1 a) (carried kind' fresh g bytes there bad' m.0 m.1 b)
one_fault_on [] (q ∷ qs) fresh f g bytes here there bad bad' kind kind' l a m b =
    absurd (apart kind fresh bytes bad q m.0 (carried kind fresh f bytes here bad l.0 l.1 a) m.1)
one_fault_on (p ∷ ps) [] fresh f g bytes here there bad bad' kind kind' l a m b =
    absurd (apart kind' fresh bytes bad' p l.0 (carried kind' fresh g bytes there bad' m.0 m.1 b) l.1)
one_fault_on (p ∷ ps) (q ∷ qs) fresh f g bytes here there bad bad' kind kind' l a m b =
    let e : Alike (length bytes) fresh bytes p q l.0 m.0 = alike (length bytes) fresh bytes p q l.0 m.0 (omega arith) l.1 m.1 in
    one_fault_on ps qs (fresh_behind fresh p) f g l.0 here there bad bad' kind kind' l.2 a (moved (fresh_behind fresh q) (fresh_behind fresh p) m.0 l.0 qs g there e.freshes e.rests m.2) b

pub one_fault : OneFault
one_fault source place place' kind kind' a b =
    let same = one_fault_on a.pieces b.pieces true a.fresh b.fresh source a.bytes b.bytes a.bad b.bad kind kind' a.leads a.fails b.leads b.fails in
    let n : length a.bad ≡ length b.bad = ap length same.1 in
    record { same_place = omega (arith, a.place_is, b.place_is, n); same_kind = same.0 }

-- ---- what the lexer goes by

-- on to the place behind a part
pub goes_on : (source : List ℕ) (fresh : Bool) (bytes : List ℕ) (tokens tokens' : List PlainToken) (fresh' : Bool) (rest : List ℕ) → Reached source fresh bytes tokens → step_at (length source) tokens fresh bytes ≡ Goes tokens' fresh' rest → Reached source fresh' rest tokens'
goes_on source fresh [] tokens tokens' fresh' rest r e =
    let same = goes_same _ _ _ _ _ _ e in
    subst (λ (f : Bool). Reached source f rest tokens') same.1.0 (subst (λ (b : List ℕ). Reached source fresh b tokens') same.1.1 (subst (λ (ts : List PlainToken). Reached source fresh [] ts) same.0 r))
goes_on source fresh (byte ∷ bytes) tokens tokens' fresh' rest r e = reaches_on source fresh byte bytes tokens tokens' fresh' rest r e

-- ---- the first fault

pub first_fault : (source : List ℕ) (fresh : Bool) (byte : ℕ) (bytes : List ℕ) (tokens : List PlainToken) (kind : LexKind) (bad : List ℕ) → Reached source fresh (byte ∷ bytes) tokens → step (length source) tokens fresh byte bytes ≡ Stops kind bad → IsFirstFault source (length source - length bad) kind
first_fault source fresh byte bytes tokens kind bad r e =
    let l = far source r.pieces true fresh (byte ∷ bytes) r.leads in
    let fails = fails_sound (length source) tokens fresh byte bytes kind bad (omega (arith, l)) e in
    let few = fails_within kind fresh (byte ∷ bytes) bad fails in
    let fault : IsFaultAt source (length source - length bad) kind = record { pieces = r.pieces; fresh = fresh; bytes = byte ∷ bytes; bad = bad; leads = r.leads; fails = fails; place_is = omega (arith, l, few) } in
    record {
      scans = scanned source (length source - length bad) kind fault;
      fault = fault;
      none = λ ts splits. no_way splits.pieces r.pieces true splits.fresh fresh source (byte ∷ bytes) bad kind splits.leads r.leads fails;
    }

-- a stop tells the first fault
pub stop_tells : (source : List ℕ) (fresh : Bool) (bytes : List ℕ) (tokens : List PlainToken) (stop : Stop) (end : LexEnd) → Reached source fresh bytes tokens → StopsSo stop (step_at (length source) tokens fresh bytes) → TellsEnd stop (length source) end → TellsFault (Err end) source
stop_tells source fresh bytes tokens stops.NoMemory end r so tells = subst (λ (x : LexEnd). TellsFault (Err x) source) (sym tells) tt
stop_tells source fresh [] tokens (stops.Fault kind bad) end r so tells = absurd (goes_stops _ _ _ kind bad.now so)
stop_tells source fresh (byte ∷ bytes) tokens (stops.Fault kind bad) end r so tells = subst (λ (x : LexEnd). TellsFault (Err x) source) (sym tells) (first_fault source fresh byte bytes tokens kind bad.now r so)

-- and no tokens split the source then
pub none_then : (source : List ℕ) (end : LexEnd) (tokens : List PlainToken) → TellsFault (Err end) source → Splits source tokens → IsOnly (Err end) tokens
none_then source ends.NoMemory tokens tells splits = tt
none_then source (ends.Fault place kind) tokens tells splits = tells.none tokens splits

-- ---- how many tokens

few_of : (start : ℕ) (ps : List Piece) (fresh fresh' : Bool) (bytes rest : List ℕ) → Leads fresh bytes ps fresh' rest → length (tokens_of start ps) ≤ length (spelling_of ps)
few_of start [] fresh fresh' bytes rest l = omega arith
few_of start (p ∷ ps) fresh fresh' bytes rest l =
    let here = few_tokens fresh start p l.1.form in
    let more = few_of (start + length (piece_spelling p)) ps (fresh_behind fresh p) fresh' l.0 rest l.2 in
    simp length-append (omega (arith, here, more))

pub few : (source : List ℕ) (tokens : List PlainToken) → Splits source tokens → length tokens ≤ length source
few source tokens s =
    let n = ap length s.tokens_are in
    let l = far source s.pieces true s.fresh [] s.leads in
    omega (arith, n, l, few_of 0 s.pieces true s.fresh source [] s.leads)
