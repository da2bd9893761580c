-- What items are written by.
use Rattle.text_rules.specs.Constants.{Source}
use Rattle.text_rules.specs.Declarations.{Names}
use Rattle.text_items.specs.Names.{item_names}
use Rattle.text_items.specs.declared.wording.Wording.{Wording}

abbrev pub source_of : Wording → Source
source_of w = w.readings.now

abbrev pub names_of : Wording → Names
names_of w = item_names w.readings.now w.names.now
