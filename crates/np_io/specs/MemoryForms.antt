-- The sources and the sinks in memory.
use Rattle.std.specs.Prelude.{◌≡◌, ℕ, ◌<◌, ◌-◌, ◌⊎◌, List, ◌++◌, length}
use Rattle.np_io.specs.Calls.{CallState, NextFails}

-- the bytes that are left, the most that one call moves, and the calls
pub record SourceState : Type 0 where
  pub left : List ℕ
  pub most : ℕ
  pub calls : CallState

-- the bytes that were given, and how many more have room
pub record RoomState : Type 0 where
  pub written : List ℕ
  pub spare : ℕ

-- the room with these bytes more
abbrev pub with_bytes : RoomState → List ℕ → RoomState
with_bytes room bytes = record { written = room.written ++ bytes; spare = room.spare - length bytes }

-- bytes are to be given, and there is no room for one
abbrev pub IsFullFor : RoomState → List ℕ → Type 0
IsFullFor room bytes = (room.spare ≡ 0) × (0 < length bytes)

-- a sink that fails at a full room alone: its room, and how many faults there were
pub record SureState : Type 0 where
  pub room : RoomState
  pub faults : ℕ

-- the room, the most that one call moves, and the calls
pub record SinkState : Type 0 where
  pub room : RoomState
  pub most : ℕ
  pub calls : CallState

-- a call with these bytes fails: its number is listed, or the room is full
abbrev pub GiveFails : SinkState → List ℕ → Type 0
GiveFails sink bytes = NextFails sink.calls ⊎ IsFullFor sink.room bytes
