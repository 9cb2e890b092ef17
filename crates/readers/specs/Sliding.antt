-- What a sliding reader means.
use Rattle.std.specs.Prelude.{ℕ, List}
use Rattle.terms.specs.Reading.{remembered}
use Rattle.terms.proofs.Reading.{every_reader_lem}
use Rattle.readers.specs.declared.window.Window.{Window}
use Rattle.readers.specs.declared.sliding.Slider.{Slider}
use Rattle.readers.specs.Memory.{Memory, held, Whole}
use Rattle.readers.specs.Window.{digits}

-- the sounds of a window, oldest first
abbrev pub shown : Window → List ℕ
shown w = digits w.scale.base w.heard w.number

-- the phrase, and what can be remembered of the window
abbrev pub slider_memory : Slider → Memory
slider_memory h = held h.phrase.items h.window.scale.width (remembered h.window.scale.width h.phrase.items (shown h.window))

pub slider_whole : (h : Slider) → Whole (slider_memory h)
slider_whole h = let l = (every_reader_lem h.window.scale.width h.phrase.items).found (shown h.window) in (l.short, l.run)
