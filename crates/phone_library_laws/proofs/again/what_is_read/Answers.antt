use Rattle.phone_library_laws.proofs.WhatIsRead.{what_is_read}
use Rattle.phone_library_laws.proofs.again.what_is_read.Goals as goal

pub returns-clause-listed : goal.returns-clause-listed
returns-clause-listed c db hint text n rules read = (what_is_read db rules hint text n read).listed

pub returns-clause-held : goal.returns-clause-held
returns-clause-held c db hint text n rules read = (what_is_read db rules hint text n read).national.held

pub returns-clause-long_enough : goal.returns-clause-long_enough
returns-clause-long_enough c db hint text n rules read = (what_is_read db rules hint text n read).national.long_enough

pub returns-clause-short_enough : goal.returns-clause-short_enough
returns-clause-short_enough c db hint text n rules read = (what_is_read db rules hint text n read).national.short_enough
