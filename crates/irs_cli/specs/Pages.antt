-- A text that goes to a sink by pages.
use Rattle.std.specs.Prelude.{ℕ}

-- the most bytes that wait to be written
abbrev pub page_size : ℕ
page_size = 4_096
