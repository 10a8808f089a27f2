use Rattle.fbc_files.proofs.FirstPage.{HasShape-begins, IsFileShape-begins, ShowsShape-begins, broken_file-begins}
use Rattle.fbc_files.proofs.ShownShapes.{shown_spelling}
use Rattle.fbc_files.proofs.laws.recognised_header.Goals as goal

pub returns-clause-unbroken : goal.returns-clause-unbroken
returns-clause-unbroken c = broken_file-begins

pub returns-clause-shown : goal.returns-clause-shown
returns-clause-shown c = λ reach header bytes begins. ShowsShape-begins header bytes begins reach

pub returns-clause-limits : goal.returns-clause-limits
returns-clause-limits c = λ reach header bytes shape begins shows. IsFileShape-begins header bytes begins reach shape shows

pub returns-clause-header : goal.returns-clause-header
returns-clause-header c = λ reach header bytes shape begins shows. HasShape-begins header bytes begins reach shape shows

pub returns-clause-one : goal.returns-clause-one
returns-clause-one c = shown_spelling
