-- Bodies and blocks that are lent from the trees of the files.
use Rattle.std.specs.Option.{option_map}
use Rattle.og_system.specs.declared.bodies as code
use Rattle.og_system.specs.Bodies.{Home, Body}

abbrev pub read_home : code.Home.Home → Home
read_home home = record { system = home.system.now; block = home.block.now }

abbrev pub read_body : code.Body.Body → Body
read_body body = record { process = body.process.now; stands_in = option_map read_home body.stands_in }
