-- A log: blocks of bytes, each of which spells acts, one block after another. (This project's own.)
use Rattle.std.specs.Prelude.{◌≡◌, ℕ, ◌-◌, List, [], ◌∷◌, ◌++◌, vec_len, vec_capacity}
use Rattle.std.specs.Global.{Vec}
use Rattle.cl_value.specs.Plain.{PlainAct}
use Rattle.cl_log.specs.Spelling.{acts_of, HaveBytes, last_ticket}
use Rattle.cl_log.specs.Reading.{acts_at}

-- what contracts see of a block and of a log: the acts, and for how many more bytes there is room
pub record PlainLog : Type 0 where
  pub acts : List PlainAct
  pub ready : ℕ

-- the acts that the bytes of a block spell, and its room
abbrev pub block_of : Vec ℕ → PlainLog
block_of bytes = record { acts = acts_at 0 bytes.items; ready = vec_capacity bytes - vec_len bytes }

-- bytes are the spelling of acts, the last of which has this ticket
pub record IsBlock (bytes : List ℕ) (last : ℕ) : Type 0 where
  pub spelled : acts_of 0 (acts_at 0 bytes) ≡ bytes
  pub have : HaveBytes 0 (acts_at 0 bytes)
  pub latest : last ≡ last_ticket 0 (acts_at 0 bytes)

-- the acts of blocks, one after another
abbrev pub acts_in_blocks : List PlainLog → List PlainAct
acts_in_blocks [] = []
acts_in_blocks (block ∷ blocks) = block.acts ++ acts_in_blocks blocks

-- the acts of full blocks and of the one that is written, and its room
abbrev pub log_of : List PlainLog → PlainLog → PlainLog
log_of full open_block = record { acts = acts_in_blocks full ++ open_block.acts; ready = open_block.ready }
