-- The first of the acts that bytes spell, and the others.
use Rattle.std.proofs.Common.{◌≡◌, ℕ, suc, List, [], ◌∷◌, ◌++◌, length, take, drop, slice_index_or, true≢false, eqb-true, Bool, true, false, ◌==◌, ◌-◌, ◌≤◌, Option, refl, sym, ap, subst, ◌∙◌, arith}
use Rattle.cl_value.specs.Plain.{PlainAct}
use Rattle.cl_log.specs.Spelling.{act_of, acts_of, HaveBytes}
use Rattle.cl_log.specs.Reading.{act_from, acts_from, acts_at}
use denote.Ref.{Bor}
use Rattle.std.proofs.Math.Seq.{take-length}
use Rattle.cl_log.specs.Logs.{PlainLog, acts_in_blocks}
use Rattle.cl_log.specs.Cursors.{IsReader, acts_behind, acts_if_any, IsNarrow, AreNarrow}
use Rattle.cl_log.proofs.Acts.{act-read, acts-again}

-- the act with which bytes begin, if they do
abbrev act_head : ℕ → PlainAct → List ℕ → PlainAct × List ℕ
act_head before none [] = (none, [])
act_head before none (byte ∷ bytes) = act_from before byte bytes

-- what was read is the first of the acts, and what is left spells the others
abbrev pub IsNext : List PlainAct → PlainAct × List ℕ → Type 0
IsNext acts read = (acts ≡ read.0 ∷ acts_at read.0.ticket read.1) × IsReader read.1 read.0.ticket

next_of : (before : ℕ) (acts : List PlainAct) (byte : ℕ) (rest : List ℕ) → acts_of before acts ≡ byte ∷ rest → HaveBytes before acts → IsNext acts (act_from before byte rest)
unfolding acts_of act_of
next_of before [] byte rest e h = let n : 0 ≡ suc (length rest) = ap length e in absurd (omega (arith, n))
next_of before (act ∷ acts) byte rest e h =
    let behind = acts_of act.ticket acts in
    let again = acts-again act.ticket acts h.1 in
    let same : act_from before byte rest ≡ (act, behind) = sym (ap (act_head before act) e) ∙ act-read before act behind h.0 in
    subst (IsNext (act ∷ acts)) (sym same) (ap (λ others. act ∷ others) (sym again), record { spelled = ap (acts_of act.ticket) again; have = subst (HaveBytes act.ticket) (sym again) h.1 })

pub next_is : (before : ℕ) (byte : ℕ) (rest : List ℕ) → IsReader (byte ∷ rest) before → IsNext (acts_at before (byte ∷ rest)) (act_from before byte rest)
next_is before byte rest r = next_of before (acts_at before (byte ∷ rest)) byte rest r.spelled r.have

-- no bytes are no acts
pub no_bytes : (before : ℕ) → acts_at before [] ≡ []
unfolding acts_at acts_from
no_bytes before = refl

-- and may be read
pub nothing_read : IsReader [] 0
unfolding acts_at acts_from acts_of
nothing_read = record { spelled = refl; have = tt }

-- no blocks
pub no_blocks : (full : List PlainLog) → length full ≡ 0 → full ≡ []
no_blocks [] e = refl
no_blocks (block ∷ full) e = absurd (omega (arith, e))

less_one : (n : ℕ) → suc n - 1 ≡ n
less_one n = omega arith

-- a block without acts may be passed over
pub block_passed : (full : List PlainLog) (open_block : Option (Bor PlainLog)) (block : PlainLog) → 1 ≤ length full → block ≡ slice_index_or full 0 block → block.acts ≡ []
    → acts_behind (take (length full - 1) (drop 1 full)) open_block ≡ acts_behind full open_block
block_passed [] open_block block some is none = absurd (omega arith)
block_passed (b ∷ full) open_block block some is none =
    let same : block ≡ b = is in
    let rest : take (length (b ∷ full) - 1) full ≡ full = ap (λ n. take n full) (less_one (length full)) ∙ take-length full in
    let gone : b.acts ≡ [] = ap (λ (x : PlainLog). x.acts) (sym same) ∙ none in
    ap (λ blocks. acts_behind blocks open_block) rest ∙ ap (λ acts. (acts ++ acts_in_blocks full) ++ acts_if_any open_block) (sym gone)

-- a list of no length has no bytes
pub no_bytes_left : (bytes : List ℕ) → length bytes ≡ 0 → bytes ≡ []
no_bytes_left [] e = refl
no_bytes_left (byte ∷ bytes) e = absurd (omega (arith, e))

-- bytes are the first one and the others
cut : (bytes : List ℕ) → 1 ≤ length bytes → bytes ≡ slice_index_or bytes 0 0 ∷ take (length bytes - 1) (drop 1 bytes)
cut [] some = absurd (omega arith)
cut (byte ∷ bytes) some = ap (λ others. byte ∷ others) (sym (ap (λ n. take n bytes) (less_one (length bytes)) ∙ take-length bytes))

pub next_cut : (before : ℕ) (bytes : List ℕ) → 1 ≤ length bytes → IsReader bytes before
    → IsNext (acts_at before bytes) (act_from before (slice_index_or bytes 0 0) (take (length bytes - 1) (drop 1 bytes)))
next_cut before bytes some reader =
    let byte = slice_index_or bytes 0 0 in
    let others = take (length bytes - 1) (drop 1 bytes) in
    let e = cut bytes some in
    subst (λ all. IsNext (acts_at before all) (act_from before byte others)) (sym e) (next_is before byte others (subst (λ all. IsReader all before) e reader))

-- the first of acts that are narrow is
pub first_narrow : (most : ℕ) (acts behind : List PlainAct) (act : PlainAct) (others : List PlainAct) → AreNarrow most (acts ++ behind) → acts ≡ act ∷ others → IsNarrow most act
first_narrow most acts behind act others narrow e =
    let first : AreNarrow most (act ∷ others ++ behind) = subst (λ all. AreNarrow most (all ++ behind)) e narrow in
    first.0

-- what is to come is the act that was read, and what is to come behind it
pub moved : (acts behind : List PlainAct) (read : PlainAct × List ℕ) (act : PlainAct) (left : List ℕ) (ticket : ℕ) → IsNext acts read → act ≡ read.0 → left ≡ read.1 → ticket ≡ act.ticket
    → acts ++ behind ≡ act ∷ (acts_at ticket left ++ behind)
moved acts behind read act left ticket next a l t =
    ap (λ all. all ++ behind) next.0
    ∙ (ap (λ (x : PlainAct). x ∷ (acts_at x.ticket read.1 ++ behind)) (sym a)
    ∙ (ap (λ bytes. act ∷ (acts_at act.ticket bytes ++ behind)) (sym l)
    ∙ ap (λ n. act ∷ (acts_at n left ++ behind)) (sym t)))

pub moved_reader : (acts : List PlainAct) (read : PlainAct × List ℕ) (act : PlainAct) (left : List ℕ) (ticket : ℕ) → IsNext acts read → act ≡ read.0 → left ≡ read.1 → ticket ≡ act.ticket → IsReader left ticket
moved_reader acts read act left ticket next a l t =
    let same : read.0.ticket ≡ ticket = sym (t ∙ ap (λ (x : PlainAct). x.ticket) a) in
    subst (λ n. IsReader left n) same (subst (λ bytes. IsReader bytes read.0.ticket) (sym l) next.1)

-- bytes that are left are some
pub some_left : (bytes : List ℕ) (is_empty : Bool) → is_empty ≡ false → is_empty ≡ (length bytes == 0) → bytes ≡ [] → ⊥
some_left bytes is_empty f e none = true≢false (sym (sym f ∙ (e ∙ ap (λ (all : List ℕ). length all == 0) none)))

-- and none are none
pub none_left : (bytes : List ℕ) (is_empty : Bool) → is_empty ≡ true → is_empty ≡ (length bytes == 0) → bytes ≡ []
none_left bytes is_empty t e = no_bytes_left bytes (eqb-true (length bytes) 0 (sym e ∙ t))
