use Rattle.fbc_examples.proofs.NamedPages.{legal_inventory, legal_pointer_page, legal_tip}
use Rattle.fbc_examples.proofs.pages.the_header_grows.Goals as goal

pub returns-clause-pointer : goal.returns-clause-pointer
returns-clause-pointer c = legal_pointer_page

pub returns-clause-tip : goal.returns-clause-tip
returns-clause-tip c = legal_tip

pub returns-clause-inventory : goal.returns-clause-inventory
returns-clause-inventory c = legal_inventory
