-- The bytes before a fault are the front of a source that tokens split.
use Rattle.std.proofs.Common.{◌≡◌, ℕ, ◌+◌, ◌≤◌, Bool, true, List, [], ◌++◌, length, take, refl, sym, ap, subst, ◌∙◌, inl, inr, arith, append_assoc, length-append}
use Rattle.std.proofs.Math.Seq.{take-append_seam}
use Rattle.cl_ast.specs.declared.fault.LexKind.{LexKind}
use Rattle.cl_ast.specs.declared.fault.LexKind.TheVariants as faults
use Rattle.cl_ast.specs.Splits.{Leads, tokens_of, Scans}
use Rattle.cl_ast.specs.Ends.{Fails, literal_end}
use Rattle.cl_ast.specs.Faults.{FailsHere, IsFaultAt}
use Rattle.cl_token.proofs.Ways.{spelling_of, spelled, cut, join}
use Rattle.cl_token.proofs.ScannedSeen.{Seen, seen_here, seen_few, LiteralSeen}
use Rattle.cl_token.proofs.ScannedLiterals.{literal_seen}
use Rattle.cl_token.proofs.ScannedLines.{line_seen}

literal_fails : (kind : LexKind) (fresh : Bool) (bytes bad : List ℕ) → literal_end bytes ≡ Fails kind bad → Seen fresh bytes bad
literal_fails kind fresh bytes bad e = subst (LiteralSeen fresh bytes) e (literal_seen fresh bytes)

seen : (kind : LexKind) (fresh : Bool) (bytes bad : List ℕ) → FailsHere kind fresh bytes bad → Seen fresh bytes bad
seen faults.BadByte fresh bytes bad fails = elim fails [ inl e ↦ literal_fails faults.BadByte fresh bytes bad e | inr b ↦ seen_here fresh bytes bad b.1 ]
seen faults.OpenString fresh bytes bad fails = elim fails [ inl e ↦ literal_fails faults.OpenString fresh bytes bad e | inr l ↦ line_seen faults.OpenString fresh bytes bad l ]
seen faults.OpenComment fresh bytes bad fails = elim fails [ inl b ↦ seen_here fresh bytes bad b.1 | inr l ↦ line_seen faults.OpenComment fresh bytes bad l ]
seen faults.WideLiteral fresh bytes bad fails = elim fails [ inl e ↦ literal_fails faults.WideLiteral fresh bytes bad e | inr l ↦ line_seen faults.WideLiteral fresh bytes bad l ]
seen faults.BadDirective fresh bytes bad fails = seen_here fresh bytes bad fails.1

pub fails_within : (kind : LexKind) (fresh : Bool) (bytes bad : List ℕ) → FailsHere kind fresh bytes bad → length bad ≤ length bytes
fails_within kind fresh bytes bad fails = seen_few fresh bytes bad (seen kind fresh bytes bad fails)

-- the front of a source up to a place
front_is : (source front bad : List ℕ) (place : ℕ) → source ≡ front ++ bad → place + length bad ≡ length source → take place source ≡ front
front_is source front bad place whole at =
    let n : length source ≡ length front + length bad = ap length whole ∙ simp length-append in
    let here : place ≡ length front = omega (arith, n, at) in
    ap (λ (k : ℕ). take k source) here ∙ (ap (take (length front)) whole ∙ take-append_seam front bad)

pub scanned : (source : List ℕ) (place : ℕ) (kind : LexKind) → IsFaultAt source place kind → Scans (take place source)
scanned source place kind fault =
    let s : Seen fault.fresh fault.bytes fault.bad = seen kind fault.fresh fault.bytes fault.bad fault.fails in
    let ps = fault.pieces in
    let parts = spelling_of ps in
    let whole : source ≡ (parts ++ s.seen) ++ fault.bad =
    spelled ps true fault.fresh source fault.bytes fault.leads ∙ (ap (λ (x : List ℕ). parts ++ x) s.whole ∙ sym (append_assoc parts s.seen fault.bad)) in
    let front : take place source ≡ parts ++ s.seen = front_is source (parts ++ s.seen) fault.bad place whole fault.place_is in
    let all : parts ++ (s.seen ++ s.more) ≡ take place source ++ s.more = sym (append_assoc parts s.seen s.more) ∙ ap (λ (x : List ℕ). x ++ s.more) (sym front) in
    let before : Leads true (parts ++ (s.seen ++ s.more)) ps fault.fresh (s.seen ++ s.more) = cut ps true fault.fresh source fault.bytes (s.seen ++ s.more) fault.leads s.agrees in
    let leads : Leads true (parts ++ (s.seen ++ s.more)) (ps ++ s.pieces) s.fresh' [] = join ps s.pieces true fault.fresh s.fresh' (parts ++ (s.seen ++ s.more)) (s.seen ++ s.more) [] before s.leads in
    record {
      more = s.more;
      tokens = tokens_of 0 (ps ++ s.pieces);
      splits = record { pieces = ps ++ s.pieces; fresh = s.fresh'; leads = subst (λ (x : List ℕ). Leads true x (ps ++ s.pieces) s.fresh' []) all leads; tokens_are = refl };
    }
