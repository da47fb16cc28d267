-- Document 01's "Proved table" holds: each line computes, the definitions being run on the example. Assumes nothing.
use mathlib.Core.Path.{refl}
use Rattle.isa.specs.Reading.{decoded, opcodes}
use Rattle.isa.specs.Timing.{columns_of, columns_at}
use Rattle.rom.specs.Fetching.{code_at, read_at, length_at, cycles_at}
use Rattle.datapath.specs.Memory.{loaded}
use Rattle.cpu.specs.Effect.{effect, branched}
use Rattle.cpu.specs.Step.{ticked, entered, executed, vector_of, stepped, step}
use Rattle.machine.specs.Table.{nops, at_rate, at_address, jz_at, table_read, running, both, after_code, with_acc_cf, Table}

pub table : Table
unfolding after_code with_acc_cf nops at_rate at_address jz_at table_read running both loaded decoded opcodes columns_of columns_at code_at read_at length_at cycles_at effect branched ticked entered executed vector_of stepped step
table = record {
  add-9-8 = refl;
  adc-15-15-1 = refl;
  daa-4-with-carry = refl;
  daa-9-without = refl;
  dec-a-of-0 = refl;
  address-80h-reads-0 = refl;
  jz-at-7feh = refl;
  jz-at-7fdh = refl;
  read-r4a-at-1ffh-high = refl;
  read-r4a-at-1ffh-low = refl;
  two-nops-count = refl;
  two-nops-flag = refl;
  edge-before-timer-pc = refl;
  edge-before-timer-flag = refl;
}
