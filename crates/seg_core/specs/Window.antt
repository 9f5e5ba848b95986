-- What contracts see of a window: the last bytes or lines of what came in.
use Rattle.std.specs.Prelude.{ℕ, Bool, ◌==◌, ◌||◌, List, ◌++◌, length, drop}

-- a window over lines
pub record Window : Type 0 where
  -- how many lines it is to keep
  pub most : ℕ
  -- the byte with which lines end
  pub delim : ℕ
  -- the bytes that it holds: all that was put, without what left at the front
  pub held : List ℕ

-- a window over bytes
pub record ByteWindowState : Type 0 where
  -- how many bytes it is to keep
  pub most : ℕ
  -- the bytes that it holds: all that was put, without what left at the front
  pub held : List ℕ
  -- whether it once held `most` bytes
  pub grown : Bool

-- the window after a put
abbrev pub with_put : ByteWindowState → List ℕ → ByteWindowState
with_put window piece = record {
  most = window.most;
  held = window.held ++ piece;
  grown = window.grown || (length (window.held ++ piece) == window.most);
}

-- the window after n bytes have left at the front
abbrev pub without_front : ByteWindowState → ℕ → ByteWindowState
without_front window n = record { most = window.most; held = drop n window.held; grown = window.grown }

-- a window over lines after n bytes have left at the front
abbrev pub without_first : Window → ℕ → Window
without_first window n = record { most = window.most; delim = window.delim; held = drop n window.held }
