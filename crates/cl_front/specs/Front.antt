-- How the reader of the whole language reads a source, and when it refuses it. (This project.)
use Rattle.std.specs.Prelude.{ℕ, ◌≡◌, ◌≤◌, List, [], ◌∷◌, length}
use Rattle.cl_rules.specs.Rules.{Kind, Syntax, TooDeep}
use Rattle.cl_ast.specs.declared.statement.Item.{Item}
use Rattle.cl_ast.specs.Plain.{PlainToken}
use Rattle.cl_ast.specs.Splits.{Splits}
use Rattle.cl_token.specs.Lexing.{IsFirstFault}
use Rattle.cl_parse.specs.Unit.{IsTree, IsStopped}
use Rattle.cl_front.specs.declared.refusal.Refusal.{Refusal}
use Rattle.cl_front.specs.declared.refusal.RefusalKind.{RefusalKind}
use Rattle.cl_front.specs.declared.refusal.RefusalKind.TheVariants as kinds
use Rattle.cl_ground.specs.declared.limits.TheConstants.{MOST_BYTES, MOST_NESTING}

-- the source is the tree of these items: it has at most so many bytes, it splits into tokens, and these derive
-- the tree and no other, within the nesting
pub record IsReadAs (source : List ℕ) (items : List Item) : Type 0 where
  pub size : length source ≤ MOST_BYTES
  pub tokens : List PlainToken
  pub splits : Splits source tokens
  pub tree : IsTree MOST_NESTING tokens items

-- the place of the first of these tokens, or of the source's end
abbrev pub place_of : List ℕ → List PlainToken → ℕ
place_of source [] = length source
place_of source (token ∷ tokens) = token.start

-- the source splits into tokens, and reading them stops by this kind at this place
pub record StopsAt (source : List ℕ) (kind : Kind) (place : ℕ) : Type 0 where
  pub tokens : List PlainToken
  pub splits : Splits source tokens
  pub bad : List PlainToken
  pub stopped : IsStopped MOST_NESTING tokens kind bad
  pub place_is : place ≡ place_of source bad

-- the source is refused by a kind at a place: where scanning its bytes first can't go on, or else where reading
-- its tokens can't
abbrev pub FailsBy : RefusalKind → List ℕ → ℕ → Type 0
FailsBy (kinds.Lex kind) source place = IsFirstFault source place kind
FailsBy kinds.Syntax source place = StopsAt source Syntax place
FailsBy kinds.TooDeep source place = StopsAt source TooDeep place
FailsBy _ source place = ⊥

-- the source is refused so
abbrev pub Fails : List ℕ → Refusal → Type 0
Fails source refusal = FailsBy refusal.kind source refusal.place
