-- Question 12 by itself (document 02, point 8).
use Rattle.setup.specs.declared.Setup.{Setup}
use Rattle.questions.specs.Asks.{Question}
use Rattle.histories.specs.Histories.{Reached}

-- 12: do an accepted sheet and a list of calls reach the setup?
abbrev pub asks_reached : Setup → Question
asks_reached s = record { number = 12; Yes = Reached s }
