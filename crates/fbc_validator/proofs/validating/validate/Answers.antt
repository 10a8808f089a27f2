use Rattle.fbc_validator.proofs.WholeFile.{has_found}
use Rattle.fbc_validator.proofs.validating.validate.Goals as goal

pub returns-clause-found : goal.returns-clause-found
returns-clause-found g c =
    has_found (g.D.Device.reach c.args.device.now) (g.D.Device.bytes c.args.device.now) (g.D.Device.bytes c.open.new.device) c.in-Ok.opened c.page_count-pages.result c.check_file.result
    c.in-Ok.ensures.opened c.open.ensures.unwritten.bytes c.page_count-pages.ensures c.check_file.ensures.found c.check_file.ensures.pages c.bytes_give_one_view.ensures.given (λ reach first shape other page bytes. c.recognised_header.ensures.one reach first shape other page bytes)
