-- A source is read as one tree, or refused in one way.
use Rattle.std.proofs.Common.{◌≡◌, ℕ, zero, suc, ◌≤◌, ◌<◌, List, [], ◌∷◌, length, map, drop, get_or, Result, Ok, refl, sym, ap, subst, ◌∙◌, arith}
use Rattle.cl_rules.specs.Rules.{Kind, Syntax, TooDeep}
use Rattle.cl_rules.proofs.Exact.{stops_once}
use Rattle.cl_rules.proofs.Reading.{reads_is}
use Rattle.cl_ast.specs.declared.fault.LexKind.{LexKind}
use Rattle.cl_ast.specs.declared.statement.Item.{Item}
use Rattle.cl_ast.specs.declared.token.Token.{Token}
use Rattle.cl_ground.specs.Room.{Room}
use Rattle.cl_ast.specs.Views.{plain_token}
use Rattle.cl_ast.specs.Plain.{PlainToken}
use Rattle.cl_ast.specs.Grammar.{unit}
use Rattle.cl_ast.specs.Splits.{Splits}
use Rattle.cl_ast.specs.Tables.{bounds}
use Rattle.cl_ast.proofs.Fits.{grammar_fits, unit_fits}
use Rattle.cl_token.specs.Lexing.{IsFirstFault, IsOnly}
use Rattle.cl_token.specs.declared.lexer.LexEnd.{LexEnd}
use Rattle.cl_token.proofs.Walk.{one_fault}
use Rattle.cl_parse.specs.Unit.{Derives, IsTree, IsStopped}
use Rattle.cl_front.specs.declared.refusal.RefusalKind.{RefusalKind}
use Rattle.cl_front.specs.declared.refusal.RefusalKind.TheVariants as kinds
use Rattle.cl_front.specs.Front.{IsReadAs, StopsAt, place_of, FailsBy}
use Rattle.cl_front.specs.Reading.{trees, IsTaken, IsRefused}
use Rattle.cl_front.specs.Ends.{EndsSo, IsSplitOnce}
use Rattle.cl_front.specs.declared.front.FrontEnd.{FrontEnd}
use Rattle.cl_front.specs.declared.front.FrontEnd.TheVariants as ends
use Rattle.cl_front.proofs.Refused.{same_refusal}

-- ---- the causes of a failure

-- the kind of a refusal of tokens
abbrev pub stop_kind : Kind → RefusalKind
stop_kind Syntax = kinds.Syntax
stop_kind TooDeep = kinds.TooDeep

-- what holds of each fault of the bytes and of each stop at a token holds of each failure; no other kind has one
by_cause : (source : List ℕ) (P : RefusalKind → ℕ → Type 0) → ((k : LexKind) (p : ℕ) → IsFirstFault source p k → P (kinds.Lex k) p) → ((k : Kind) (p : ℕ) → StopsAt source k p → P (stop_kind k) p) → (k : RefusalKind) (p : ℕ) → FailsBy k source p → P k p
by_cause source P faults stops (kinds.Lex k) p f = faults k p f
by_cause source P faults stops kinds.Syntax p f = stops Syntax p f
by_cause source P faults stops kinds.TooDeep p f = stops TooDeep p f
by_cause source P faults stops (kinds.Type k) p f = absurd f
by_cause source P faults stops kinds.NotBuilt p f = absurd f

-- ---- sources that aren't tokens

module _ (source : List ℕ) (place : ℕ) (kind : LexKind) (fault : IsFirstFault source place kind) where
  no_tree : (items : List Item) → IsReadAs source items → ⊥
  no_tree items read = fault.none read.tokens read.splits

  same_fault : (k : LexKind) (p : ℕ) → IsFirstFault source p k → (kinds.Lex kind ≡ kinds.Lex k) × (place ≡ p)
  same_fault k p f = let same = one_fault source place p kind k fault.fault f.fault in (ap (λ (k : LexKind). kinds.Lex k) same.same_kind, same.same_place)

  same_failure : (k : RefusalKind) (p : ℕ) → FailsBy k source p → (kinds.Lex kind ≡ k) × (place ≡ p)
  same_failure = by_cause source (λ k p. (kinds.Lex kind ≡ k) × (place ≡ p)) same_fault (λ k p f. absurd (fault.none f.tokens f.splits))

  pub fault_refuses : IsRefused trees source (record { kind = kinds.Lex kind; place = place })
  fault_refuses =
      record {
        none = no_tree;
        is = fault;
        alone = λ other fails. let same = same_failure other.kind other.place fails in same_refusal (kinds.Lex kind) place other same.0 same.1;
      }

-- ---- sources of these tokens

-- reading stops at one place, by one kind
one_stop : (tokens : List PlainToken) (kind other : Kind) (bad worse : List PlainToken) → IsStopped 64 tokens kind bad → IsStopped 64 tokens other worse → (kind ≡ other) × (bad ≡ worse)
one_stop tokens kind other bad worse s r = stops_once (reads_is bounds grammar_fits 64 unit unit_fits).laws 64 tokens kind other bad worse s.stops r.stops

module _ (source : List ℕ) (tokens : List PlainToken) (split : IsSplitOnce source tokens) where
  -- what is said of tokens that split the source is said of these
  of_tokens : (P : List PlainToken → Type 0) (others : List PlainToken) → Splits source others → P others → P tokens
  of_tokens P others splits h = subst P (sym (split.alone others splits)) h

  no_fault : (p : ℕ) (k : LexKind) → IsFirstFault source p k → ⊥
  no_fault p k f = f.none tokens split.splits

  module _ (kind : Kind) (bad : List PlainToken) (stopped : IsStopped 64 tokens kind bad) where
    none_read : (items : List Item) → IsReadAs source items → ⊥
    none_read items read = stopped.none items (of_tokens (λ ts. Derives 64 ts items) read.tokens read.splits read.tree.derived)

    stops_so : (k : Kind) → IsStopped 64 tokens k bad → FailsBy (stop_kind k) source (place_of source bad)
    stops_so Syntax s = record { tokens = tokens; splits = split.splits; bad = bad; stopped = s; place_is = refl }
    stops_so TooDeep s = record { tokens = tokens; splits = split.splits; bad = bad; stopped = s; place_is = refl }

    same_stop : (k : Kind) (p : ℕ) → StopsAt source k p → (stop_kind kind ≡ stop_kind k) × (place_of source bad ≡ p)
    same_stop k p s =
        let same = one_stop tokens kind k bad s.bad stopped (of_tokens (λ ts. IsStopped 64 ts k s.bad) s.tokens s.splits s.stopped) in
        (ap stop_kind same.0, ap (place_of source) same.1 ∙ sym s.place_is)

    same_end : (k : RefusalKind) (p : ℕ) → FailsBy k source p → (stop_kind kind ≡ k) × (place_of source bad ≡ p)
    same_end = by_cause source (λ k p. (stop_kind kind ≡ k) × (place_of source bad ≡ p)) (λ k p f. absurd (no_fault p k f)) same_stop

    pub stop_refuses : IsRefused trees source (record { kind = stop_kind kind; place = place_of source bad })
    stop_refuses =
        record {
          none = none_read;
          is = stops_so kind stopped;
          alone = λ other fails. let same = same_end other.kind other.place fails in same_refusal (stop_kind kind) (place_of source bad) other same.0 same.1;
        }

  module _ (items : List Item) (tree : IsTree 64 tokens items) where
    never_stops : (k : Kind) (p : ℕ) → StopsAt source k p → ⊥
    never_stops k p s = (of_tokens (λ ts. IsStopped 64 ts k s.bad) s.tokens s.splits s.stopped).none items tree.derived

    never_fails : (k : RefusalKind) (p : ℕ) → FailsBy k source p → ⊥
    never_fails = by_cause source (λ k p. ⊥) (λ k p f. no_fault p k f) never_stops

    same_tree : (others : List Item) → IsReadAs source others → items ≡ others
    same_tree others read = sym (tree.only 64 others (of_tokens (λ ts. Derives 64 ts others) read.tokens read.splits read.tree.derived))

    pub tree_read : length source ≤ 1048576 → IsTaken trees source items
    tree_read size =
        record {
          is = record { size = size; tokens = tokens; splits = split.splits; tree = tree };
          alone = same_tree;
          fine = λ refusal fails. never_fails refusal.kind refusal.place fails;
        }

-- ---- what the lexer and the parser tell

-- the tokens that the lexer gives are the only ones
pub split_once : (source : List ℕ) (result : Result (Room Token) LexEnd) (found : Room Token) (tokens : List Token) → result ≡ Ok found → tokens ≡ found.items → ((others : List PlainToken) → Splits source others → IsOnly result others) → Splits source (map plain_token found.items) → IsSplitOnce source (map plain_token tokens)
split_once source result found tokens is same only splits =
    subst (λ (ts : List Token). IsSplitOnce source (map plain_token ts)) (sym same)
    (record { splits = splits; alone = λ others other. subst (λ (r : Result (Room Token) LexEnd). IsOnly r others) is (only others other) })

-- a refusal of tokens by the parser is one of the source
pub parse_refuses : (source : List ℕ) (tokens : List PlainToken) → IsSplitOnce source tokens → (kind : Kind) (token : ℕ) (result : FrontEnd) → IsStopped 64 tokens kind (drop token tokens) →
    result ≡ ends.Refused (record { kind = stop_kind kind; place = place_of source (drop token tokens) }) → EndsSo trees source result
parse_refuses source tokens split kind token result stopped is = subst (λ (end : FrontEnd). EndsSo trees source end) (sym is) (stop_refuses source tokens split kind (drop token tokens) stopped)

-- the place of a token that is there
pub token_place : (source : List ℕ) (tokens : List Token) (n : ℕ) (token : Token) → n < length tokens → token ≡ get_or tokens n token → token.span.start ≡ place_of source (drop n (map plain_token tokens))
token_place source [] n token less is = absurd (omega (arith, less))
token_place source (t ∷ ts) zero token less is = ap (λ (t : Token). t.span.start) is
token_place source (t ∷ ts) (suc n) token less is = token_place source ts n token (omega (arith, less)) is
