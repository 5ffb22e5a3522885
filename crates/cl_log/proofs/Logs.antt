-- One act more, behind those of a block.
use Rattle.std.proofs.Common.{◌≡◌, ℕ, ◌≤◌, ◌<◌, List, [], ◌∷◌, ◌++◌, refl, sym, ap, subst, ◌∙◌, arith, append_assoc, append-nil}
use Rattle.std.proofs.lemmas.List.Elements.{All-head, All-tail}
use Rattle.cl_value.specs.Plain.{PlainAct}
use Rattle.cl_value.specs.Tickets.{IsAbove}
use Rattle.cl_log.specs.Spelling.{act_of, acts_of, ActHasBytes, HaveBytes, last_ticket}
use Rattle.cl_log.specs.Reading.{acts_from, acts_at}
use Rattle.cl_log.specs.Logs.{IsBlock, PlainLog, acts_in_blocks}
use Rattle.cl_log.proofs.Acts.{acts-again}

-- no bytes are no acts
pub nothing : acts_at 0 [] ≡ []
unfolding acts_at acts_from
nothing = refl

pub empty_block : IsBlock [] 0
unfolding acts_at acts_from acts_of
empty_block = record { spelled = refl; have = tt; latest = refl }

-- the bytes of an act more stand behind those of the acts
pub spelled_more : (before : ℕ) (acts : List PlainAct) (act : PlainAct) → acts_of before (acts ++ act ∷ []) ≡ acts_of before acts ++ act_of (last_ticket before acts) act
unfolding acts_of
spelled_more before [] act = append-nil (act_of before act)
spelled_more before (a ∷ acts) act =
    ap (λ bytes. act_of before a ++ bytes) (spelled_more a.ticket acts act) ∙ sym (append_assoc (act_of before a) (acts_of a.ticket acts) (act_of (last_ticket a.ticket acts) act))

-- they have bytes with it
pub have_more : (before : ℕ) (acts : List PlainAct) (act : PlainAct) → HaveBytes before acts → ActHasBytes (last_ticket before acts) act → HaveBytes before (acts ++ act ∷ [])
have_more before [] act h has = (has, tt)
have_more before (a ∷ acts) act h has = (h.0, have_more a.ticket acts act h.1 has)

-- it is the last
pub last_more : (before : ℕ) (acts : List PlainAct) (act : PlainAct) → last_ticket before (acts ++ act ∷ []) ≡ act.ticket
last_more before [] act = refl
last_more before (a ∷ acts) act = last_more a.ticket acts act

-- bytes with those of an act more are read as the acts with it
pub more_acts : (bytes : List ℕ) (last : ℕ) (act : PlainAct) → IsBlock bytes last → ActHasBytes last act → acts_at 0 (bytes ++ act_of last act) ≡ acts_at 0 bytes ++ act ∷ []
more_acts bytes last act b has =
    let acts = acts_at 0 bytes in
    let has' : ActHasBytes (last_ticket 0 acts) act = subst (λ n. ActHasBytes n act) b.latest has in
    let all : acts_of 0 (acts ++ act ∷ []) ≡ bytes ++ act_of last act =
    spelled_more 0 acts act ∙ (ap (λ front. front ++ act_of (last_ticket 0 acts) act) b.spelled ∙ ap (λ n. bytes ++ act_of n act) (sym b.latest)) in
    ap (acts_at 0) (sym all) ∙ acts-again 0 (acts ++ act ∷ []) (have_more 0 acts act b.have has')

pub more_block : (bytes : List ℕ) (last : ℕ) (act : PlainAct) → IsBlock bytes last → ActHasBytes last act → IsBlock (bytes ++ act_of last act) act.ticket
more_block bytes last act b has =
    let acts = acts_at 0 bytes in
    let read = more_acts bytes last act b has in
    let has' : ActHasBytes (last_ticket 0 acts) act = subst (λ n. ActHasBytes n act) b.latest has in
    record {
      spelled = ap (acts_of 0) read ∙ (spelled_more 0 acts act ∙ (ap (λ front. front ++ act_of (last_ticket 0 acts) act) b.spelled ∙ ap (λ n. bytes ++ act_of n act) (sym b.latest)));
      have = subst (HaveBytes 0) (sym read) (have_more 0 acts act b.have has');
      latest = sym (ap (last_ticket 0) read ∙ last_more 0 acts act);
    }

-- a ticket above all is at least the last
pub above_last : (before ticket : ℕ) (acts : List PlainAct) → before ≤ ticket → IsAbove ticket acts → last_ticket before acts ≤ ticket
above_last before ticket [] low above = low
above_last before ticket (a ∷ acts) low above =
    let first = All-head (λ (b : PlainAct). b.ticket < ticket) a acts above in
    above_last a.ticket ticket acts (omega (arith, first)) (All-tail (λ (b : PlainAct). b.ticket < ticket) a acts above)

-- a block more, behind the others
pub one_block_more : (blocks : List PlainLog) (block : PlainLog) → acts_in_blocks (blocks ++ block ∷ []) ≡ acts_in_blocks blocks ++ block.acts
one_block_more [] block = append-nil block.acts
one_block_more (b ∷ blocks) block = ap (λ acts. b.acts ++ acts) (one_block_more blocks block) ∙ sym (append_assoc b.acts (acts_in_blocks blocks) block.acts)

-- a ticket above all is above those behind
pub above_right : (ticket : ℕ) (front behind : List PlainAct) → IsAbove ticket (front ++ behind) → IsAbove ticket behind
above_right ticket [] behind above = above
above_right ticket (a ∷ front) behind above = above_right ticket front behind (All-tail (λ (b : PlainAct). b.ticket < ticket) a (front ++ behind) above)

-- the acts stay where a block is full and an empty one is written
pub block_turned : (blocks : List PlainLog) (block fresh : PlainLog) → fresh.acts ≡ [] → acts_in_blocks (blocks ++ block ∷ []) ++ fresh.acts ≡ acts_in_blocks blocks ++ block.acts
block_turned blocks block fresh none = ap (λ acts. acts_in_blocks (blocks ++ block ∷ []) ++ acts) none ∙ (append-nil (acts_in_blocks (blocks ++ block ∷ [])) ∙ one_block_more blocks block)
